use Rattle.listing_lines.proofs.Lines.{extends_as}
use Rattle.listing_lines.proofs.digits.with_decimal.Goals as goal

pub returns : goal.returns
returns c = extends_as _ _ c.decimal_digits.ensures.is c.with_digits.ensures
