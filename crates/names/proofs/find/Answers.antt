-- `names::find` meets its contract. The loop's invariant: no entry passed is the key.
use native.Mathlib.Omega.{arith}
use Rattle.names.proofs.Finding.{not_more, found_here, found_nowhere}
use Rattle.names.proofs.find.Goals as goal

pub loop-i-init : goal.loop-i-init
loop-i-init c = λ j l. absurd (omega arith)

pub returns-then-same : goal.returns-then-same
returns-then-same c = found_here _ _ _ _ _ c.at.ensures c.same.ensures c.if-same.true _ (omega arith) c.loop-i.invariant

pub loop-i-preserved : goal.loop-i-preserved
loop-i-preserved c = not_more _ _ _ _ _ c.at.ensures c.same.ensures c.if-same.false c.loop-i.invariant

pub returns : goal.returns
returns c = found_nowhere _ _ _ _ (omega arith) c.loop-i.invariant
