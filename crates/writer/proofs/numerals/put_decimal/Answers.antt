use Rattle.writer.proofs.InFront.{decimals_on, decimals_end}
use Rattle.writer.proofs.numerals.put_decimal.Goals as goal

pub returns-then-rest-eq0 : goal.returns-then-rest-eq0
returns-then-rest-eq0 c = decimals_end c.loop-rest.invariant c.digit.ensures c.if-rest-eq0.true

pub loop-rest-preserved : goal.loop-rest-preserved
loop-rest-preserved c = decimals_on c.loop-rest.invariant c.digit.ensures c.if-rest-eq0.false
