-- `name_audit::stands_before` meets its contract. The loop's invariant: every name from the place on differs; the place falls.
use mathlib.Core.Path.{sym, subst}
use native.Mathlib.Omega.{arith}
use Rattle.definitions.proofs.Deciding.{says_no}
use Rattle.name_audit.proofs.Chains.{Walked, walk_starts, walk_goes_on, walk_ends, stands_here, stands_not, link_falls}
use Rattle.name_audit.proofs.stands_before.Goals as goal

pub loop-place-init : goal.loop-place-init
loop-place-init c = walk_starts _ _ _ _ c.requires

pub at-requires : goal.at-requires
at-requires c = let w = c.loop-place.invariant.low in let f = c.requires.fits in omega arith

pub at-requires-in-loop-place : goal.at-requires-in-loop-place
at-requires-in-loop-place c = c.requires.fits

pub same-requires : goal.same-requires
same-requires c = (c.at.ensures.size, c.at-in-loop-place.ensures.size)

pub returns-then-same : goal.returns-then-same
returns-then-same c = stands_here _ _ _ _ _ _ c.at.ensures c.at-in-loop-place.ensures c.same.ensures c.if-same.true c.loop-place-test.true c.loop-place.invariant

pub offset_bounds-before-other : goal.offset_bounds-before-other
offset_bounds-before-other c = let w = c.loop-place.invariant.low in let f = c.requires.many in omega arith

pub bounds-before-other : goal.bounds-before-other
bounds-before-other c = let w = c.loop-place.invariant.low in let f = c.requires.many in omega arith

pub loop-place-smaller : goal.loop-place-smaller
loop-place-smaller c = let e = c.from-place.ensures in let l = link_falls _ _ _ _ _ c.requires c.loop-place.invariant c.loop-place-test.true in omega arith

pub loop-place-preserved : goal.loop-place-preserved
loop-place-preserved c = subst (Walked _ _) (sym c.from-place.ensures) (walk_goes_on _ _ _ _ _ c.requires c.loop-place.invariant c.loop-place-test.true (stands_not _ _ _ _ _ _ c.at.ensures c.at-in-loop-place.ensures c.same.ensures c.if-same.false))

pub returns : goal.returns
returns c = says_no (walk_ends _ _ _ c.loop-place.invariant (omega arith))
