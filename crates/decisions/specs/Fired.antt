-- Which pattern a decision is by.
use Rattle.std.specs.Prelude.{ℕ, ◌≡◌, List, Option, Some, None}
use Rattle.std.proofs.Math.Option as Math
use Rattle.std.proofs.Math.Option.{none, some}
use Rattle.definitions.specs.Node.{Node}
use Rattle.definitions.specs.Intern.{Lent, Built}
use Rattle.definitions.specs.Walk.{Mode}
use Rattle.definitions.specs.Firing as F
use Rattle.definitions.specs.Firing.{apply_as, firing}
use Rattle.store.specs.View.{nodes_in}
use Rattle.decisions.specs.Deciding.{Decides}
use Rattle.decisions.specs.declared.Replacement.{Replacement}
use Rattle.decisions.specs.declared.firing.Pattern.{Pattern}
use Rattle.decisions.specs.declared.firing.Pattern.TheVariants.{AddZero, SubIdentity, MulIdentity, DivIdentity, PowIdentity, NegDouble, ConstantFold, MulCoefMerge, AddCoefMerge}
use Rattle.decisions.specs.declared.firing.Decision.{Decision}

abbrev pub pattern_of : Pattern → F.Pattern
pattern_of AddZero = F.add_zero
pattern_of SubIdentity = F.sub_identity
pattern_of MulIdentity = F.mul_identity
pattern_of DivIdentity = F.div_identity
pattern_of PowIdentity = F.pow_identity
pattern_of NegDouble = F.neg_double
pattern_of ConstantFold = F.constant_fold
pattern_of MulCoefMerge = F.mul_coef_merge
pattern_of AddCoefMerge = F.add_coef_merge

abbrev pub fired_of : Option Pattern → Math.Option F.Pattern
fired_of None = none
fired_of (Some p) = some (pattern_of p)

-- what stands in the place, and the pattern that says so
abbrev pub replacement_of : Option Decision → Option Replacement
replacement_of None = None
replacement_of (Some d) = Some d.replacement

abbrev pub pattern_in : Option Decision → Option Pattern
pattern_in None = None
pattern_in (Some d) = Some d.pattern

-- a decision and the pattern that it is by are the plain machine's, whatever is lent
pub record Chooses (w : List ℕ) (count : ℕ) (plain : Lent → List Node → Math.Option Built) (naming : Lent → List Node → Math.Option F.Pattern) (d : Option Decision) : Type 0 where
  pub decides : Decides w count plain (replacement_of d)
  pub fired : (l : Lent) → fired_of (pattern_in d) ≡ naming l (nodes_in w count)

-- the first pattern of a mode that fits a kind over its children
abbrev pub Fires : Mode → List ℕ → ℕ → ℕ → List ℕ → Option Decision → Type 0
Fires m w count k c d = Chooses w count (λ l ns. apply_as m l ns k c) (λ l ns. firing m l ns k c) d
