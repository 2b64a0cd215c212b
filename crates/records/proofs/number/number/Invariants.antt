-- `records::number::number` meets its contract. The loop's invariant: the value is that of the bytes passed.
use Rattle.records.specs.Reading.{Number}
use Rattle.records.proofs.number.number.Given as goal

abbrev pub invariant-loop-byte : goal.invariant-loop-byte
invariant-loop-byte l = Number l.sheet l.at l.byte-index l.value
