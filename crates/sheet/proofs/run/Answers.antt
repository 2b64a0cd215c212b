-- `sheet::run` meets its contract.
use Rattle.sheet.proofs.Whole.{runs_unsound, runs_at_start, runs_refused, runs_records}
use Rattle.sheet.proofs.run.Goals as goal

pub returns-then-not-audit : goal.returns-then-not-audit
returns-then-not-audit c = runs_at_start _ _ _ _ _ _ c.number.ensures _ c.refused.ensures (runs_unsound _ _ (c.audit.ensures.no c.if-not-audit.true))

pub run_records-requires : goal.run_records-requires
run_records-requires c = c.audit.ensures.yes c.if-not-audit.false

pub returns-in-Err : goal.returns-in-Err
returns-in-Err c = runs_at_start _ _ _ _ _ _ c.number-in-Err.ensures _ c.refused-in-Err.ensures (runs_refused _ _ (c.audit.ensures.yes c.if-not-audit.false) _ c.in-Err.ensures)

pub returns-in-Ok : goal.returns-in-Ok
returns-in-Ok c = runs_records _ _ (c.audit.ensures.yes c.if-not-audit.false) _ c.in-Ok.ensures _ _ c.run_records.ensures
