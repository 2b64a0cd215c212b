use mathlib.Core.Path.{refl}
use Rattle.curvalique.proofs.Refusals.{answers_prune}
use Rattle.curvalique.proofs.Answering.{in_numbers}
use Rattle.store_calls.proofs.Handing.{handed}
use borrow.Author.Rules.{rules}
use Rattle.unaudited.proofs.curvalique_prune_sound.Goals as goal

pub leave_pruned-requires : goal.leave_pruned-requires
leave_pruned-requires c = answers_prune _ _ _ _ (handed _ _ _ _ _ _ c.of_prune.result c.prune_sound-outcome.ensures c.of_prune.ensures).called refl

pub returns : goal.returns
returns c =
    let p = in_numbers _ _ _ _ _ _ _ _ _ _ _ _ (handed _ _ _ _ _ _ c.of_prune.result c.prune_sound-outcome.ensures c.of_prune.ensures) c.leave_pruned.ensures.size_after c.leave_pruned.ensures.left_behind in
    record { leaves = p.0; outputs_stay = p.1 }
