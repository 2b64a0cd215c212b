use native.Mathlib.Omega.{arith}
use Rattle.store.proofs.Reading as R
use Rattle.listing_lines.proofs.Lines.{listed_none, listed_more, listed_all}
use Rattle.listing_lines.proofs.node.with_children.Goals as goal

pub arity-arity-requires : goal.arity-arity-requires
arity-arity-requires c = c.requires.1

pub loop-place-init : goal.loop-place-init
loop-place-init c =
    let few = R.few _ _ _ c.requires.1 in
    listed_none _ _ few

pub child-requires : goal.child-requires
child-requires c =
    let e = c.arity-arity.ensures in
    (omega arith, c.requires.1)

pub with_number-longer-requires : goal.with_number-longer-requires
with_number-longer-requires c =
    let e = c.arity-arity.ensures in
    let v = c.loop-place.invariant in
    let few = v.few in
    let long = v.extends.long in
    omega arith

pub loop-place-preserved : goal.loop-place-preserved
loop-place-preserved c =
    let e = c.arity-arity.ensures in
    listed_more _ _ _ _ c.loop-place.invariant (omega arith) _ c.child.ensures _ c.with_number-longer.ensures

pub returns : goal.returns
returns c =
    let e = c.arity-arity.ensures in
    let v = c.loop-place.invariant in
    let w = v.within in
    listed_all _ _ _ _ v (omega arith)
