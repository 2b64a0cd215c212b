use Rattle.pruner.proofs.Calling as Q
use Rattle.pruner.proofs.prune_by_setting_sound.Goals as goal

pub prune_lists-requires : goal.prune_lists-requires
prune_lists-requires c = c.requires

pub returns : goal.returns
returns c = Q.by_setting _ _ _ c.requires _ _ _ _ c.threshold.result c.threshold.ensures c.prune_lists.ensures
