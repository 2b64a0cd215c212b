use Rattle.listing_lines.proofs.Lines.{extends_as, extends_trans}
use Rattle.listing_lines.proofs.digits.with_payload.Goals as goal

pub returns : goal.returns
returns c = extends_trans c.with_bytes.ensures (extends_as _ _ c.hex_digits.ensures.is c.with_digits.ensures)
