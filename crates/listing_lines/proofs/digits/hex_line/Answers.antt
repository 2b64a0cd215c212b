-- `digits::hex_line` meets its contract. Assumes nothing.
use lib.Dec.{lit≤}
use Rattle.listing_lines.proofs.Lines.{extends_as, extends_trans, from_empty}
use Rattle.listing_lines.proofs.digits.hex_line.Goals as goal

pub returns : goal.returns
returns c =
    let digits = extends_as _ _ c.hex_digits.ensures.is c.with_digits.ensures in
    from_empty c.new.ensures (extends_trans digits c.with_bytes.ensures) (lit≤ tt)
