use Rattle.store.proofs.Reading as R
use Rattle.store.proofs.lookup.arity.Goals as goal

pub returns : goal.returns
returns c = R.arity_is _ _ _ c.requires
