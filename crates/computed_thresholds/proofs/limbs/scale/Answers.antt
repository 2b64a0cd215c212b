-- `limbs::scale` meets its contract. Assumes nothing.
use native.Mathlib.Omega.{arith}
use Rattle.computed_thresholds.proofs.Scaling.{starts, product_fits, step, ends}
use Rattle.computed_thresholds.proofs.limbs.scale.Goals as goal

pub loop-i-init : goal.loop-i-init
loop-i-init c = starts _ _ _ c.requires.0

pub bounds-limbs-i : goal.bounds-limbs-i
bounds-limbs-i c = omega (arith, c.loop-i.invariant.small.1)

pub overflow_mul-sum : goal.overflow_mul-sum
overflow_mul-sum c = omega (arith, product_fits c.loop-i.invariant (omega arith) c.requires.1)

pub overflow_add-sum : goal.overflow_add-sum
overflow_add-sum c = omega (arith, product_fits c.loop-i.invariant (omega arith) c.requires.1)

pub bounds-limbs-i-in-loop-i : goal.bounds-limbs-i-in-loop-i
bounds-limbs-i-in-loop-i c = omega (arith, c.loop-i.invariant.small.1)

pub loop-i-preserved : goal.loop-i-preserved
loop-i-preserved c = step c.loop-i.invariant (omega arith)

pub returns : goal.returns
returns c = ends c.loop-i.invariant (λ h. omega arith)
