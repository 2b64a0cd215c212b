use Rattle.writer.proofs.Reached.{flags_is}
use Rattle.writer.proofs.sweeping.flags.Goals as goal

pub returns : goal.returns
returns c = flags_is _ _ _ c.requires
