use mathlib.Core.Path.{refl}
use Rattle.curvalique.proofs.Refusals.{answers_walk}
use Rattle.curvalique.proofs.Answering.{in_numbers}
use Rattle.store_calls.proofs.Handing.{handed}
use borrow.Author.Rules.{rules}
use Rattle.unaudited.proofs.curvalique_simplify_sound.Goals as goal

pub leave_simplified-requires : goal.leave_simplified-requires
leave_simplified-requires c = answers_walk _ _ _ _ (handed _ _ _ _ _ _ c.of_walk.result c.simplify_sound-outcome.ensures c.of_walk.ensures).called refl

pub returns : goal.returns
returns c =
    let p = in_numbers _ _ _ _ _ _ _ _ _ _ _ _ (handed _ _ _ _ _ _ c.of_walk.result c.simplify_sound-outcome.ensures c.of_walk.ensures) c.leave_simplified.ensures.size_after c.leave_simplified.ensures.left_behind in
    record { leaves = p.0; outputs_stay = p.1 }
