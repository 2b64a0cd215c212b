-- `listing_reader::number::hex_at` meets its contract. The loop's invariant: the digits passed are those of the value.
use Rattle.listing_reader.proofs.Digits.{HexDigits}
use Rattle.listing_reader.proofs.number.hex_at.Given as goal

abbrev pub invariant-loop-read : goal.invariant-loop-read
invariant-loop-read l = HexDigits l.bytes l.at l.value l.next l.read
