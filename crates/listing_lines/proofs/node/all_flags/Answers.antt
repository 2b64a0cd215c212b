use Rattle.listing_lines.proofs.Flags.{flags_are}
use Rattle.listing_lines.proofs.node.all_flags.Goals as goal

pub returns : goal.returns
returns c = flags_are _ _ _ c.requires
