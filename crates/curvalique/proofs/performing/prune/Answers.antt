use Rattle.curvalique.proofs.Refusals.{answers_prune}
use Rattle.curvalique.proofs.Answering.{in_numbers}
use borrow.Author.Rules.{rules}
use Rattle.curvalique.proofs.performing.prune.Goals as goal

pub leave_pruned-requires : goal.leave_pruned-requires
leave_pruned-requires c = answers_prune _ _ _ _ c.perform-performed.ensures.called c.requires

pub returns : goal.returns
returns c =
    let p = in_numbers _ _ _ _ _ _ _ _ _ _ _ _ c.perform-performed.ensures c.leave_pruned.ensures.size_after c.leave_pruned.ensures.left_behind in
    record { leaves = p.0; outputs_stay = p.1 }
