use Rattle.sheet.proofs.Whole.{fresh_no_sheet, is_a_sheet, fresh_refused, fresh_ran}
use Rattle.std.proofs.Common.{ap, sym, ◌∙◌, Err}
use Rattle.refusal.specs.Number.{by_number}
use Rattle.sheet.proofs.run_fresh.Goals as goal

pub returns-in-Err : goal.returns-in-Err
returns-in-Err c = fresh_no_sheet _ _ _ _ _ c.in-Err.ensures _ c.number.ensures _ c.refused.ensures

pub returns-in-Err-fresh : goal.returns-in-Err-fresh
returns-in-Err-fresh c = fresh_refused _ _ _ _ (is_a_sheet _ _ c.open.ensures c.in_default.not-Err) _ _ c.fresh.ensures _ (ap by_number c.in-Err-fresh.is ∙ ap Err (sym c.number-in-Err-fresh.ensures)) _ c.refused-in-Err-fresh.ensures

pub returns-in-Ok : goal.returns-in-Ok
returns-in-Ok c = fresh_ran _ _ _ _ (is_a_sheet _ _ c.open.ensures c.in_default.not-Err) _ _ c.fresh.ensures _ (ap by_number c.in-Ok.is) _ _ _ c.run.ensures
