use Rattle.std.specs.Prelude.{◌-◌}
use Rattle.writer.proofs.InFront.{HexesLeft}
use Rattle.writer.proofs.numerals.put_hex.Given as goal

abbrev pub invariant-loop-written : goal.invariant-loop-written
invariant-loop-written l = HexesLeft l.bits l.at l.initial.out l.out l.place l.rest (16 - l._written)
