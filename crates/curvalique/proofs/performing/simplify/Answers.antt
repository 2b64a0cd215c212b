use Rattle.curvalique.proofs.Refusals.{answers_walk}
use Rattle.curvalique.proofs.Answering.{simplify_in_numbers}
use borrow.Author.Rules.{rules}
use Rattle.curvalique.proofs.performing.simplify.Goals as goal

pub leave_simplified-requires : goal.leave_simplified-requires
leave_simplified-requires c = answers_walk _ _ _ _ c.perform-performed.ensures.called c.requires

pub returns : goal.returns
returns c =
    let p = simplify_in_numbers _ _ _ _ _ _ _ _ _ _ _ _ _ c.perform-performed.ensures c.leave_simplified.ensures.size_after c.leave_simplified.ensures.left_behind c.leave_simplified.ensures.spent_left in
    record { leaves = p.0; outputs_stay = p.1.0; spent_or_not = p.1.1 }
