-- `chains::chain::push_siblings` meets its contract. Assumes nothing.
use native.Mathlib.Omega.{arith}
use Rattle.chains.proofs.Reading.{child_limited}
use Rattle.chains.proofs.Pushing as Q
use Rattle.chains.proofs.Pushing.{Pushing}
use Rattle.chains.proofs.chain.push_siblings.Goals as goal

pub arity-requires : goal.arity-requires
arity-requires c = c.requires.0

pub loop-place-init : goal.loop-place-init
loop-place-init c = Q.begins _ _ _ _ c.requires.3 c.requires.1 c.requires.2 c.requires.4

pub returns-then-free-to : goal.returns-then-free-to
returns-then-free-to c = Q.nowhere _ _ _ _ c.requires.3 _ _ _ c.loop-place.invariant (omega (arith, c.loop-place-test.true, c.arity.ensures)) c.if-free-to.true

pub child-requires : goal.child-requires
child-requires c = (c.loop-place.invariant.many, c.requires.0)

pub overflow_cast-terms : goal.overflow_cast-terms
overflow_cast-terms c = omega (arith, child_limited _ _ _ c.requires.0 _ _ c.loop-place.invariant.many c.child.ensures)

pub offset_bounds-terms-to : goal.offset_bounds-terms-to
offset_bounds-terms-to c = omega (arith, c.if-free-to.false, c.requires.3)

pub bounds-terms-to : goal.bounds-terms-to
bounds-terms-to c = omega (arith, c.if-free-to.false, c.requires.3)

pub overflow_add-to : goal.overflow_add-to
overflow_add-to c = omega (arith, c.if-free-to.false, c.requires.3)

pub loop-place-smaller : goal.loop-place-smaller
loop-place-smaller c = omega (arith, c.loop-place-test.true)

pub loop-place-preserved : goal.loop-place-preserved
loop-place-preserved c = Q.goes_on _ _ _ _ c.requires.3 _ _ _ c.loop-place.invariant (omega (arith, c.loop-place-test.true, c.arity.ensures)) c.if-free-to.false _ c.child.ensures

pub returns : goal.returns
returns c = Q.somewhere _ _ _ _ c.requires.3 _ _ _ c.loop-place.invariant (omega (arith, c.loop-place-test.false, c.arity.ensures))
