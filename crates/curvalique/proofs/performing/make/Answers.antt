use Rattle.curvalique.proofs.Refusals.{answers_node}
use Rattle.curvalique.proofs.Answering.{in_numbers}
use borrow.Author.Rules.{rules}
use Rattle.curvalique.proofs.performing.make.Goals as goal

pub leave_stored-requires : goal.leave_stored-requires
leave_stored-requires c = answers_node _ _ _ _ c.perform-performed.ensures.called c.requires

pub returns : goal.returns
returns c =
    let p = in_numbers _ _ _ _ _ _ _ _ _ _ _ _ c.perform-performed.ensures c.leave_stored.ensures.size_after c.leave_stored.ensures.left_behind in
    record { leaves = p.0; outputs_stay = p.1 }
