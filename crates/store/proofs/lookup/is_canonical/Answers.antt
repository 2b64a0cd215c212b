use Rattle.store.proofs.Reading as R
use Rattle.store.proofs.lookup.is_canonical.Goals as goal

pub returns : goal.returns
returns c = R.mark_is _ _ _ c.requires
