use mathlib.Core.Path.{sym, ap, ◌∙◌, subst}
use borrow.Author.Rules.{rules}
use Rattle.decimal_thresholds.specs.Billionths.{Between, billionths}
use Rattle.decimal_thresholds.proofs.RoundedUp.{between}
use Rattle.decimal_thresholds.proofs.threshold_billionths.Goals as goal

pub rounded_up-requires : goal.rounded_up-requires
rounded_up-requires c = subst Between (sym c.threshold.ensures) (between _ c.requires.prunes c.requires.is_setting)

pub returns : goal.returns
returns c = c.rounded_up.ensures ∙ ap billionths c.threshold.ensures
