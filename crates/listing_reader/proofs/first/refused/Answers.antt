-- `listing_reader::first::refused` meets its contract.
use mathlib.Core.Path.{refl}
use Rattle.listing_reader.proofs.FirstLines.{no_refusal, no_record, refusal_found}
use Rattle.listing_reader.proofs.first.refused.Goals as goal

pub returns-in_err-number : goal.returns-in_err-number
returns-in_err-number c = rw c.from_residual.ensures (no_refusal c.in_err-number.ensures refl)

pub returns-in_err-record : goal.returns-in_err-record
returns-in_err-record c = rw c.from_residual-in_err-record.ensures (no_record c.in_ok-number.ensures refl c.in_err-record.ensures refl)

pub returns : goal.returns
returns c = refusal_found c.in_ok-number.ensures refl c.in_ok-record.ensures refl
