-- What a request leaves, with the counts of its store behind pointers.
use Prim.Native.Nat.{ℕ}
use mathlib.Core.Path.{◌≡◌, sym, subst}
use mathlib.Core.List.{List}
use Rattle.arena.specs.declared.DagArena.{DagArena}
use Rattle.definitions.specs.Machine as M
use Rattle.store.specs.Memory.{Memory, memory}
use Rattle.building.specs.Requests.{BuildsSound}
use Rattle.outputs.specs.Calls.{arena_of, lent_memory}

pub built_left : (q : M.Request) (m : Memory) (a : M.Answer) (words slots : List ℕ) (arena : DagArena) (count size : ℕ)
    → BuildsSound q m a (memory words slots arena) → arena_of count size ≡ arena → BuildsSound q m a (lent_memory words slots count size)
built_left q m a words slots arena count size b e = subst (λ (x : DagArena). BuildsSound q m a (memory words slots x)) (sym e) b
