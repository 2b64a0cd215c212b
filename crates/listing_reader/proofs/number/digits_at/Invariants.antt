-- `listing_reader::number::digits_at` meets its contract. The loop's invariant: the digits passed are those of the value.
use Prim.Native.Nat.{◌-◌}
use lib.ListN.{length}
use Rattle.listing_reader.proofs.Digits.{Digits}
use Rattle.listing_reader.proofs.number.digits_at.Given as goal

abbrev pub invariant-loop-digit : goal.invariant-loop-digit
invariant-loop-digit l = Digits l.bytes l.at l.value l.next

abbrev pub decreases-loop-digit : goal.decreases-loop-digit
decreases-loop-digit l = length l.bytes - l.next
