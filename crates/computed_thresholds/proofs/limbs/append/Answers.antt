-- `limbs::append` meets its contract. Assumes nothing.
use native.Mathlib.Omega.{arith}
use Rattle.computed_thresholds.proofs.Appending.{starts, room, step, ends}
use Rattle.computed_thresholds.proofs.limbs.append.Goals as goal

pub loop-over-init : goal.loop-over-init
loop-over-init c = starts _ _ _ c.requires

pub offset_bounds-limbs-count : goal.offset_bounds-limbs-count
offset_bounds-limbs-count c = omega (arith, room c.requires c.loop-over.invariant (omega arith))

pub bounds-limbs-count : goal.bounds-limbs-count
bounds-limbs-count c = room c.requires c.loop-over.invariant (omega arith)

pub overflow_add-count : goal.overflow_add-count
overflow_add-count c = omega (arith, room c.requires c.loop-over.invariant (omega arith))

pub loop-over-smaller : goal.loop-over-smaller
loop-over-smaller c = omega arith

pub loop-over-preserved : goal.loop-over-preserved
loop-over-preserved c = step c.requires c.loop-over.invariant (omega arith)

pub returns : goal.returns
returns c = ends c.loop-over.invariant (λ h. omega arith)
