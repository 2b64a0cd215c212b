use Rattle.chains.proofs.Reading.{readable}
use Rattle.pruner.proofs.kept_terms.Goals as goal

pub flatten-requires : goal.flatten-requires
flatten-requires c = (c.requires.0, readable _ _ _ c.args.store.now.sound, c.requires.1)
