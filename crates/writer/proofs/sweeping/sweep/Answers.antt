use Rattle.writer.proofs.Reached.{swept_none, swept_on}
use Rattle.writer.proofs.sweeping.sweep.Goals as goal

pub returns-then-not-stands : goal.returns-then-not-stands
returns-then-not-stands c = swept_none c.loop-i.invariant c.loop-i-test.true c.if-reached-i-ne0.true c.stands.ensures c.if-not-stands.true

pub loop-i-preserved-then-reached-i-ne0 : goal.loop-i-preserved-then-reached-i-ne0
loop-i-preserved-then-reached-i-ne0 c = swept_on c.loop-i.invariant c.loop-i-test.true c.if-reached-i-ne0.true c.stands.ensures c.if-not-stands.false c.reach.ensures
