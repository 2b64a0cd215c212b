use Rattle.store.proofs.Reading as R
use Rattle.store.proofs.lookup.kind.Goals as goal

pub returns : goal.returns
returns c = R.kind_is _ _ _ c.requires
