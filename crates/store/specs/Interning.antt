-- What interning one node says.
use Rattle.std.specs.Prelude.{ℕ, ◌≡◌, List}
use Rattle.arena.specs.declared.DagArena.{DagArena}
use Rattle.arena.specs.Layout.{arena_of}
use Rattle.definitions.specs.Node as N
use Rattle.definitions.specs.Intern as I
use Rattle.store.specs.declared.Built.{Built}
use Rattle.store.specs.declared.NodeAnswer.{NodeAnswer}
use Rattle.store.specs.declared.NodeAnswer.TheVariants.{Refused}
use Rattle.store.specs.View.{nodes_in, lent, Builds}
use Rattle.store.specs.Memory.{memory}

-- an answer with the counts after it
abbrev pub built_of : NodeAnswer → ℕ → ℕ → Built
built_of answer count size = record { answer = answer; arena = arena_of count size }

-- it is the plain machine's, and a refusal changes nothing
pub record Interns (words slots : List ℕ) (arena : DagArena) (n : N.Node) (words' slots' : List ℕ) (r : Built) : Type 0 where
  pub builds : Builds words slots arena (I.intern (lent words slots) (nodes_in words arena.count) n) words' slots' r
  pub unchanged : (number : ℕ) → r.answer ≡ Refused number → memory words' slots' r.arena ≡ memory words slots arena
