use Rattle.store.proofs.Reading as R
use Rattle.store.proofs.lookup.payload.Goals as goal

pub returns : goal.returns
returns c = R.payload_is _ _ _ c.requires
