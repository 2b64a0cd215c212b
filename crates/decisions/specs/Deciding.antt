-- What a pattern decides over the nodes as they are.
use Rattle.std.specs.Prelude.{ℕ, ◌≡◌, List, Option, Some, None}
use Rattle.std.proofs.Math.Option as Math
use Rattle.std.proofs.Math.Option.{none, some}
use Rattle.definitions.specs.Node.{Node}
use Rattle.definitions.specs.Intern.{Lent, Built}
use Rattle.store.specs.View.{nodes_in}
use Rattle.store.specs.Lookup.{Lookup}
use Rattle.decisions.specs.Carrying.{carried, ReplacementLow}
use Rattle.decisions.specs.declared.Replacement.{Replacement}

-- two operands that may be looked up
pub record Both (w : List ℕ) (count lhs rhs : ℕ) : Type 0 where
  pub left : Lookup w count lhs
  pub right : Lookup w count rhs

-- what the plain machine builds when a decision is carried out
abbrev pub plain_result : Lent → List Node → Option Replacement → Math.Option Built
plain_result l ns (Some r) = some (carried r l ns)
plain_result l ns None = none

abbrev pub ResultLow : ℕ → Option Replacement → Type 0
ResultLow count (Some r) = ReplacementLow count r
ResultLow count None = Unit {0}

-- a decision is the plain machine's, whatever is lent
pub record Decides (w : List ℕ) (count : ℕ) (plain : Lent → List Node → Math.Option Built) (r : Option Replacement) : Type 0 where
  pub is : (l : Lent) → plain_result l (nodes_in w count) r ≡ plain l (nodes_in w count)
  pub low : ResultLow count r
