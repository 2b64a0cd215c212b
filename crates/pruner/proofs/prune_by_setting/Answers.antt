-- `pruner::prune_by_setting` meets its contract. Assumes nothing.
use Rattle.pruner.proofs.Calling as Q
use Rattle.pruner.proofs.prune_by_setting.Goals as goal

pub returns : goal.returns
returns c = Q.audited_by_setting _ _ _ _ _ _ _ c.threshold.result c.threshold.ensures c.prune_audited.ensures
