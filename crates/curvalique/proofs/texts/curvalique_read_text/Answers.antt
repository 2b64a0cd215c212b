use Rattle.curvalique.proofs.TextAnswering.{read_in_numbers}
use borrow.Author.Rules.{rules}
use Rattle.curvalique.proofs.texts.curvalique_read_text.Goals as goal

pub returns : goal.returns
returns c =
    let p = read_in_numbers _ _ _ _ _ _ _ _ _ _ _ _ _ _ c.read-made.ensures c.leave_built.ensures.size_after c.leave_built.ensures.left_behind in
    record { reads_text = p.0; outputs_stay = p.1 }
