use Rattle.std.proofs.Common.{arith}
use Rattle.writer.proofs.InFront.{hexes_as, hexes_on, hexes_end}
use Rattle.writer.proofs.numerals.put_hex.Goals as goal

pub loop-written-preserved : goal.loop-written-preserved
loop-written-preserved c = hexes_as (hexes_on c.loop-written.invariant (omega arith) c.digit.ensures) (omega arith)

pub returns : goal.returns
returns c = hexes_end c.loop-written.invariant (omega arith)
