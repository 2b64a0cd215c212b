-- `listing_reader::number::spaced_decimal_at` meets its contract.
use Rattle.listing_reader.proofs.Digits.{spaced_not, spaced_number}
use Rattle.listing_reader.proofs.number.spaced_decimal_at.Goals as goal

pub returns-in_err-number : goal.returns-in_err-number
returns-in_err-number c = rw c.from_residual.ensures (spaced_not _ _ _ _ c.in_err-number.ensures)

pub returns : goal.returns
returns c = spaced_number _ _ _ _ _ c.in_ok-number.ensures _ c.decimal_at.ensures
