-- The memory that a store holds, and what its methods say of it.
use Rattle.std.specs.Prelude.{ℕ, ◌≡◌, length, Result, Ok, Err}
use Rattle.refusal.specs.declared.Refusal.{Refusal}
use Rattle.refusal.specs.Number.{number_of}
use Rattle.arena.specs.Layout.{arena_of}
use Rattle.definitions.specs.Node as N
use Rattle.store.specs.declared.holding.Store.{Store}
use Rattle.arena.specs.declared.key.Parts.{Parts}
use Rattle.store.specs.declared.Built.{Built}
use Rattle.store.specs.declared.NodeAnswer.{NodeAnswer}
use Rattle.store.specs.declared.NodeAnswer.TheVariants.{Id, Refused}
use Rattle.store.specs.View.{nodes_in}
use Rattle.store.specs.Lookup.{Fits}
use Rattle.store.specs.Memory.{Memory, memory}
use Rattle.store.specs.Interning.{Interns}

abbrev pub held : Store → Memory
held s = memory s.nodes.now s.slots.now (arena_of s.count s.size)

-- a node of a store, plainly
abbrev pub node_in : Store → ℕ → N.Node
node_in s id = N.at (nodes_in s.nodes.now s.count) id

-- the same lists are lent, as long as before
pub record SameLists (s s' : Store) : Type 0 where
  pub nodes : s'.nodes.ghost_name ≡ s.nodes.ghost_name
  pub slots : s'.slots.ghost_name ≡ s.slots.ghost_name
  pub long : length s'.nodes.now ≡ length s.nodes.now
  pub wide : length s'.slots.now ≡ length s.slots.now

-- an answer with its refusal's number
abbrev pub node_answer : Result ℕ Refusal → NodeAnswer
node_answer (Ok id) = Id id
node_answer (Err refusal) = Refused (number_of refusal)

-- an answer and the memory after it, as they stand beside lent lists
abbrev pub built_in : Result ℕ Refusal → Memory → Built
built_in answer m = record { answer = node_answer answer; arena = m.arena }

-- the parts, plainly
abbrev pub plain_parts : Parts → N.Node
plain_parts p = N.node p.kind p.payload p.flags p.children.now

-- parts that may be interned in a store with so many nodes
abbrev pub FitsParts : ℕ → Parts → Type 0
FitsParts count p = Fits count p.kind p.payload p.flags p.children.now

-- the plain machine's interning
abbrev pub InternsParts : Memory → Parts → Result ℕ Refusal → Memory → Type 0
InternsParts m p answer m' = Interns m.words m.slots m.arena (plain_parts p) m'.words m'.slots (built_in answer m')
