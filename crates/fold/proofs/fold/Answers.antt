-- `fold::fold` meets its contract: each arm is one law of `Folding`.
use mathlib.Core.Path.{ap, ap₂, sym, refl, ◌∙◌}
use lib.Ieee as Ieee
use Rattle.fold.specs.Fold.{stored}
use Rattle.fold.proofs.Values.{zero_is}
use Rattle.fold.proofs.Exactly.{folds}
use Rattle.fold.proofs.Folding as L
use native.Mathlib.Omega.{arith}
use Rattle.fold.proofs.fold.Goals as goal

pub returns-in-2 : goal.returns-in-2
returns-in-2 c = folds _ _ _ _ (c.bits_of.ensures ∙ ap stored (L.sum_folds c.value-x.ensures c.value-y.ensures c.in-2.is))

pub returns-in-3 : goal.returns-in-3
returns-in-3 c = folds _ _ _ _ (c.bits_of-in-3.ensures ∙ ap stored (L.difference_folds c.value-x.ensures c.value-y.ensures c.in-3.is))

pub returns-in-4 : goal.returns-in-4
returns-in-4 c = folds _ _ _ _ (c.bits_of-in-4.ensures ∙ ap stored (L.product_folds c.value-x.ensures c.value-y.ensures c.in-4.is))

pub returns-in-5 : goal.returns-in-5
returns-in-5 c = folds _ _ _ _ (c.bits_of-in-5.ensures ∙ ap stored (L.quotient_folds c.value-x.ensures c.value-y.ensures c.in-5.is (ap₂ Ieee.ne refl (sym zero_is) ∙ c.if-y.true)))

pub returns-in_default : goal.returns-in_default
returns-in_default c = folds _ _ _ _ (ap stored (L.by_zero_declined c.value-x.ensures c.value-y.ensures c.in-5.is (ap₂ Ieee.ne refl (sym zero_is) ∙ c.if-y.false)))

pub returns-in_default-2 : goal.returns-in_default-2
returns-in_default-2 c = folds _ _ _ _ (ap stored (L.other_declined _ _ _ (λ e. omega arith) (λ e. omega arith) (λ e. omega arith) (λ e. omega arith)))
