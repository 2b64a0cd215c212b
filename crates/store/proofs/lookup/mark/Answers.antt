use Rattle.store.proofs.Marking.{marked_is}
use Rattle.store.proofs.lookup.mark.Goals as goal

pub returns : goal.returns
returns c = marked_is _ _ _ c.requires _ c.mark.ensures
