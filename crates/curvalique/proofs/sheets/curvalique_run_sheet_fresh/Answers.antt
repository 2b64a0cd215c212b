use mathlib.Core.Path.{refl}
use Rattle.curvalique.proofs.SheetAnswering.{fresh_in_numbers}
use borrow.Author.Rules.{rules}
use Rattle.curvalique.proofs.sheets.curvalique_run_sheet_fresh.Goals as goal

pub returns : goal.returns
returns c =
    let args = c.args in let p = fresh_in_numbers _ _ _ _ _ _ _ _ args.form.now args.id.now args.«record».now c.leave_arena.ensures c.leave_outcome.ensures _ _ _ _ _ _ _ refl refl c.run_fresh-ran.ensures in
    record { runs_fresh = p.0; record_after = p.1 }
