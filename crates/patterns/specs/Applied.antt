-- What `try_apply` answers and leaves.
use Rattle.std.specs.Prelude.{ℕ, ◌<◌, ◌≤◌, ◌≡◌, List, length, get_or, Option, Some, None}
use Rattle.std.proofs.Math.Option as Math
use Rattle.std.proofs.Math.Option.{none, some}
use Rattle.arena.specs.declared.DagArena.{DagArena}
use Rattle.definitions.specs.Limits.{most_children}
use Rattle.definitions.specs.Intern as I
use Rattle.definitions.specs.Walk.{Mode}
use Rattle.definitions.specs.Firing as F
use Rattle.definitions.specs.Firing.{apply_as, firing}
use Rattle.store.specs.View.{nodes_in, lent, Kept, Low, plain_built}
use Rattle.store.specs.declared.NodeAnswer.{NodeAnswer}
use Rattle.store.specs.declared.NodeAnswer.TheVariants.{Id, Refused}
use Rattle.decisions.specs.Fired.{fired_of}
use Rattle.decisions.specs.declared.firing.Pattern.{Pattern}
use Rattle.patterns.specs.declared.Finished.{Finished}

-- the children are nodes of the store, as many as a node may have at most
pub record Operands (count : ℕ) (children : List ℕ) : Type 0 where
  pub few : length children ≤ most_children
  pub low : (j : ℕ) → j < length children → get_or children j 0 < count

-- an answer over the words after it: no pattern fits, or the nodes with the id, or the nodes with the refusal
abbrev pub plain_matched : Option Finished → List ℕ → Math.Option I.Built
plain_matched None w = none
plain_matched (Some f) w = some (plain_built f.answer (nodes_in w f.arena.count))

abbrev pub MatchedLow : Option Finished → Type 0
MatchedLow None = Unit {0}
MatchedLow (Some f) = Low f.answer f.arena.count

-- the store's counts after an answer: those before it where no pattern fits
abbrev pub counts_after : DagArena → Option Finished → DagArena
counts_after s None = s
counts_after s (Some f) = f.arena

abbrev pub fired_in : Option Finished → Option Pattern
fired_in None = None
fired_in (Some f) = f.fired

-- what fires at an answer: nothing where it is stopped
abbrev pub fires_with : NodeAnswer → Math.Option F.Pattern → Math.Option F.Pattern
fires_with (Id i) p = p
fires_with (Refused k) p = none

abbrev pub fires_at : Option Finished → Math.Option F.Pattern → Math.Option F.Pattern
fires_at None p = none
fires_at (Some f) p = fires_with f.answer p

-- the answer, the store after it and the pattern that fired are the plain machine's; where no pattern fits nothing changes
pub record Applies (m : Mode) (k : ℕ) (c : List ℕ) (w slots : List ℕ) (s : DagArena) (w' slots' : List ℕ) (r : Option Finished) : Type 0 where
  pub is : plain_matched r w' ≡ apply_as m (lent w slots) (nodes_in w s.count) k c
  pub fired : fired_of (fired_in r) ≡ fires_at r (firing m (lent w slots) (nodes_in w s.count) k c)
  pub kept : Kept w slots s w' slots' (counts_after s r)
  pub low : MatchedLow r
  pub same : r ≡ None → (w' ≡ w) × (slots' ≡ slots)
