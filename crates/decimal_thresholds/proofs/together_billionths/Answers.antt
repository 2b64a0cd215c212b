use mathlib.Core.Path.{refl}
use borrow.Author.Rules.{rules}
use Rattle.decimal_thresholds.proofs.RoundedUp.{together_fits}
use Rattle.decimal_thresholds.proofs.together_billionths.Goals as goal

pub overflow_mul-result : goal.overflow_mul-result
overflow_mul-result c = record { fits = rw c.threshold_billionths.ensures (together_fits _ _ c.requires.prunes c.requires.is_setting c.requires.is_of_a_sum) }

pub returns : goal.returns
returns c = rw c.threshold_billionths.ensures refl
