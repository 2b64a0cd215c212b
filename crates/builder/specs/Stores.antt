-- What the builder's calls say.
use Rattle.std.specs.Prelude.{ℕ, List}
use Rattle.arena.specs.declared.DagArena.{DagArena}
use Rattle.definitions.specs.Machine as M
use Rattle.store.specs.declared.Built.{Built}
use Rattle.store.specs.Memory.{memory, answer_of, Leaves}

-- a store call, on the memory before it, with its answer and the memory after it
abbrev pub Stores : M.Store → List ℕ → List ℕ → DagArena → List ℕ → List ℕ → Built → Type 0
Stores c words slots arena words' slots' r = Leaves (M.store c) (memory words slots arena) (answer_of r.answer) (memory words' slots' r.arena)
