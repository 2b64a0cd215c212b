use Rattle.listing_lines.proofs.Lines.{extends_trans}
use Rattle.listing_lines.proofs.digits.with_number.Goals as goal

pub returns : goal.returns
returns c = extends_trans c.with_bytes.ensures c.with_decimal.ensures
