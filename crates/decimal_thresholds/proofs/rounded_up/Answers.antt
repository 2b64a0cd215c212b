use mathlib.Core.Path.{refl}
use native.Mathlib.Omega.{arith}
use borrow.Author.Rules.{rules}
use Rattle.decimal_thresholds.specs.Billionths.{billionths}
use Rattle.decimal_thresholds.proofs.RoundedUp.{one_more_fits}
use Rattle.decimal_thresholds.proofs.rounded_up.Goals as goal

pub overflow_add-result : goal.overflow_add-result
overflow_add-result c = record { fits = one_more_fits _ _ (omega arith) }

pub returns : goal.returns
unfolding billionths
returns c = refl
