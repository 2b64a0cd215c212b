-- `sums::sum::split` meets its contract. The measure is the number of terms that are not split. Assumes nothing.
use native.Mathlib.Omega.{arith}
use Rattle.sums.specs.Sums.{whole}
use Rattle.sums.proofs.Splitting as Q
use Rattle.sums.proofs.Splitting.{Splitting}
use Rattle.sums.proofs.sum.split.Goals as goal

pub loop-rest-init : goal.loop-rest-init
loop-rest-init c = record { few = c.requires.0; long = c.requires.1; goes = λ rights'' end left h. h }

pub overflow_sub-rights : goal.overflow_sub-rights
overflow_sub-rights c = omega arith

pub offset_bounds-rights-to : goal.offset_bounds-rights-to
offset_bounds-rights-to c = omega (arith, Q.place_free _ _ _ _ _ _ c.loop-rest.invariant c.loop-rest-test.true)

pub bounds-rights-to : goal.bounds-rights-to
bounds-rights-to c = Q.place_free _ _ _ _ _ _ c.loop-rest.invariant c.loop-rest-test.true

pub overflow_add-to : goal.overflow_add-to
overflow_add-to c = omega (arith, Q.place_free _ _ _ _ _ _ c.loop-rest.invariant c.loop-rest-test.true)

pub loop-rest-smaller : goal.loop-rest-smaller
loop-rest-smaller c = omega arith

pub loop-rest-preserved : goal.loop-rest-preserved
loop-rest-preserved c = Q.halves _ _ _ _ _ _ c.loop-rest.invariant c.loop-rest-test.true

pub returns : goal.returns
returns c = c.loop-rest.invariant.goes _ _ _ (whole c.loop-rest-test.false)
