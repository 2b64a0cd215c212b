use Rattle.curvalique.proofs.SheetAnswering.{sheet_in_numbers}
use borrow.Author.Rules.{rules}
use Rattle.curvalique.proofs.sheets.curvalique_run_sheet.Goals as goal

pub returns : goal.returns
returns c =
    let args = c.args in let p = sheet_in_numbers _ _ _ _ _ _ _ _ args.form.now args.id.now args.«record».now c.leave_arena.ensures c.leave_outcome.ensures _ _ _ _ c.run-ran.ensures in
    record { runs = p.0; record_after = p.1 }
