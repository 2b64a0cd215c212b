-- `listing_reader::number::byte_at` meets its contract.
use mathlib.Core.Path.{sym}
use lib.ListN.{get_or-eq_default}
use native.Mathlib.Omega.{arith}
use Rattle.listing_reader.proofs.number.byte_at.Goals as goal

pub returns-else-at-bytes : goal.returns-else-at-bytes
returns-else-at-bytes c = sym (get_or-eq_default c.args.bytes.now 0 (omega arith))
