-- `pruner::prune` meets its contract. Assumes nothing.
use Rattle.pruner.proofs.Calling as Q
use Rattle.pruner.proofs.prune.Goals as goal

pub returns : goal.returns
returns c = Q.audited_by_bits _ _ _ _ _ _ _ c.given.result c.given.ensures c.prune_audited.ensures
