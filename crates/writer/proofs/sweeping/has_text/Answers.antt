use Rattle.std.proofs.Common.{refl}
use Rattle.writer.proofs.Finishing.{unreached_of}
use Rattle.writer.proofs.sweeping.has_text.Goals as goal

pub sweep-requires : goal.sweep-requires
sweep-requires c = (c.requires.0, c.requires.1, unreached_of 65536 refl)
