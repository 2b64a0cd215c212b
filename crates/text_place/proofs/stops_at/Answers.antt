use Rattle.text_place.proofs.Reaching.{starts, goes_on, stops}
use Rattle.text_place.proofs.stops_at.Goals as goal

pub loop-i-init : goal.loop-i-init
loop-i-init c = starts _

pub returns-in-None : goal.returns-in-None
returns-in-None c = stops _ _ _ c.loop-i.invariant c.loop-i-test.true _ c.advance.ensures c.in-None.is

pub loop-i-preserved : goal.loop-i-preserved
loop-i-preserved c = goes_on _ _ _ c.loop-i.invariant c.loop-i-test.true _ c.advance.ensures _ c.in-Some.is
