-- `chains::chain::flatten` meets its contract. The measure is the weight of the ids that wait and of the id at hand,
-- and whether a distance is still to be noted. Assumes nothing.
use mathlib.Core.Path.{sym, ◌∙◌}
use mathlib.Core.Logic.{inl, inr}
use native.Mathlib.Omega.{arith}
use Rattle.chains.proofs.Reading.{child_below, child_lower}
use Rattle.chains.proofs.Stepping.{late_few, less_work, less_late_left, less_late_right, noted, stepped}
use Rattle.chains.proofs.Flattening as Q
use Rattle.chains.proofs.Flattening.{Flattening, work}
use Rattle.chains.proofs.chain.flatten.Goals.{then-put_term, else-put_term, then-put_term-2, else-put_term-2, then-put_term-3, else-put_term-3}
use Rattle.chains.proofs.chain.flatten.Goals as goal

pub loop-terms-init : goal.loop-terms-init
loop-terms-init c = let p = c.requires in Q.begins _ _ _ _ p.0 _ p.2

pub kind-requires : goal.kind-requires
kind-requires c = let readable = c.requires.1 in readable.lookup _ (Q.id_below _ _ _ _ readable _ _ _ _ _ _ c.loop-terms.invariant)

pub overflow_sub-put_term : goal.overflow_sub-put_term
overflow_sub-put_term c = omega arith

pub overflow_sub-back : goal.overflow_sub-back
overflow_sub-back c = let inv = c.loop-terms.invariant in omega (arith, inv.few, inv.room, inv.ordered)

pub put_term-requires : goal.put_term-requires
put_term-requires c =
    let readable = c.requires.1 in
    (readable.lookup _ (Q.id_below _ _ _ _ readable _ _ _ _ _ _ c.loop-terms.invariant), omega arith, c.loop-terms.invariant.long)

pub overflow_add-back : goal.overflow_add-back
overflow_add-back c = let inv = c.loop-terms.invariant in omega (arith, inv.few, inv.room, inv.ordered)

pub overflow_add-found : goal.overflow_add-found
overflow_add-found c = let inv = c.loop-terms.invariant in omega (arith, inv.room, inv.ordered)

pub close_up-requires : goal.close_up-requires
close_up-requires c =
    let readable = c.requires.1 in
    (Q.kept_inside _ _ _ _ readable _ _ _ _ _ _ c.loop-terms.invariant _ _ _ c.put_term.ensures _ (elim c.if-put_term.branch [ then-put_term w ↦ inl (w.if-put_term.true, w.back-is) | else-put_term w ↦ inr (w.if-put_term.false, w.back-is) ]), Q.long_too _ _ _ _ readable _ _ _ _ _ _ c.loop-terms.invariant _ _ _ c.put_term.ensures)

pub returns-then-top-front : goal.returns-then-top-front
returns-then-top-front c =
    let readable = c.requires.1 in
    Q.ends_flat _ _ _ _ readable _ _ _ _ _ _ c.loop-terms.invariant _ _ c.put_term.ensures (λ e. c.if-kind-ne-ADD.true (c.kind.ensures ∙ e)) _ (elim c.if-put_term.branch [ then-put_term w ↦ inl (w.if-put_term.true, w.back-is) | else-put_term w ↦ inr (w.if-put_term.false, w.back-is) ]) c.if-top-front.true _ _ c.close_up.ensures

pub overflow_sub-top : goal.overflow_sub-top
overflow_sub-top c = omega (arith, c.if-top-front.false, c.loop-terms.invariant.ordered)

pub offset_bounds-terms-top : goal.offset_bounds-terms-top
offset_bounds-terms-top c = let inv = c.loop-terms.invariant in omega (arith, inv.few, inv.room)

pub bounds-terms-top : goal.bounds-terms-top
bounds-terms-top c = let inv = c.loop-terms.invariant in omega (arith, c.if-top-front.false, inv.ordered, inv.few, inv.room)

pub overflow_cast-id : goal.overflow_cast-id
overflow_cast-id c =
    let readable = c.requires.1 in
    omega (arith, Q.next_limited _ _ _ _ readable _ _ _ _ _ _ c.loop-terms.invariant _ _ c.put_term.ensures c.if-top-front.false)

pub loop-terms-smaller-then-kind-ne-ADD : goal.loop-terms-smaller-then-kind-ne-ADD
loop-terms-smaller-then-kind-ne-ADD c =
    let readable = c.requires.1 in
    less_work _ _ _ _ _ _ (late_few _ _ _ _ _) (late_few _ _ _ _ _) (Q.finds_less _ _ _ _ readable _ _ _ _ _ _ c.loop-terms.invariant _ _ c.put_term.ensures c.if-top-front.false)

pub loop-terms-preserved-then-kind-ne-ADD : goal.loop-terms-preserved-then-kind-ne-ADD
loop-terms-preserved-then-kind-ne-ADD c =
    let readable = c.requires.1 in
    Q.finds _ _ _ _ readable _ _ _ _ _ _ c.loop-terms.invariant _ _ c.put_term.ensures (λ e. c.if-kind-ne-ADD.true (c.kind.ensures ∙ e)) _ (elim c.if-put_term.branch [ then-put_term w ↦ inl (w.if-put_term.true, w.back-is) | else-put_term w ↦ inr (w.if-put_term.false, w.back-is) ]) c.if-top-front.false

pub has_term-requires : goal.has_term-requires
has_term-requires c =
    let readable = c.requires.1 in
    (Q.id_below _ _ _ _ readable _ _ _ _ _ _ c.loop-terms.invariant, omega arith, readable)

pub overflow_sub-t-33 : goal.overflow_sub-t-33
overflow_sub-t-33 c = omega arith

pub overflow_sub-found : goal.overflow_sub-found
overflow_sub-found c = let inv = c.loop-terms.invariant in omega (arith, inv.room, inv.ordered)

pub overflow_add-found-then-has_term : goal.overflow_add-found-then-has_term
overflow_add-found-then-has_term c = let inv = c.loop-terms.invariant in omega (arith, inv.few, inv.room, inv.ordered)

pub returns-then-found-front : goal.returns-then-found-front
returns-then-found-front c =
    let readable = c.requires.1 in
    Q.exceeds_two _ _ _ _ readable _ _ _ _ _ _ c.loop-terms.invariant (sym c.kind.ensures ∙ c.if-kind-ne-ADD.false) (c.has_term.ensures c.if-has_term.true).two c.if-found-front.true

pub child-requires : goal.child-requires
child-requires c =
    let readable = c.requires.1 in
    (omega (arith, (c.has_term.ensures c.if-has_term.true).two), readable.lookup _ (Q.id_below _ _ _ _ readable _ _ _ _ _ _ c.loop-terms.invariant))

pub overflow_sub-below : goal.overflow_sub-below
overflow_sub-below c =
    let readable = c.requires.1 in
    omega (arith, child_lower _ _ readable _ _ _ (Q.id_below _ _ _ _ readable _ _ _ _ _ _ c.loop-terms.invariant) c.child.ensures (omega (arith, (c.has_term.ensures c.if-has_term.true).two)))

pub loop-terms-smaller-then-below-left_step : goal.loop-terms-smaller-then-below-left_step
loop-terms-smaller-then-below-left_step c = less_late_left _ _ _ _ (noted _ _ _ 0 _ c.child.ensures _ c.if-below-left_step.true)

pub loop-terms-preserved-then-below-left_step : goal.loop-terms-preserved-then-below-left_step
loop-terms-preserved-then-below-left_step c = c.loop-terms.invariant

pub child-last-requires : goal.child-last-requires
child-last-requires c =
    let readable = c.requires.1 in
    (omega (arith, (c.has_term.ensures c.if-has_term.true).two), readable.lookup _ (Q.id_below _ _ _ _ readable _ _ _ _ _ _ c.loop-terms.invariant))

pub overflow_sub-put_term-then-has_term : goal.overflow_sub-put_term-then-has_term
overflow_sub-put_term-then-has_term c = omega arith

pub overflow_sub-back-then-has_term : goal.overflow_sub-back-then-has_term
overflow_sub-back-then-has_term c = let inv = c.loop-terms.invariant in omega (arith, inv.few, inv.room, inv.ordered)

pub put_term-requires-then-has_term : goal.put_term-requires-then-has_term
put_term-requires-then-has_term c =
    let readable = c.requires.1 in
    (readable.lookup _ (child_below _ _ readable _ _ _ (Q.id_below _ _ _ _ readable _ _ _ _ _ _ c.loop-terms.invariant) c.child-last.ensures (omega (arith, (c.has_term.ensures c.if-has_term.true).two))), omega arith, c.loop-terms.invariant.long)

pub overflow_add-back-then-put_term-2 : goal.overflow_add-back-then-put_term-2
overflow_add-back-then-put_term-2 c = let inv = c.loop-terms.invariant in omega (arith, inv.few, inv.room, inv.ordered)

pub overflow_add-found-then-has_term-2 : goal.overflow_add-found-then-has_term-2
overflow_add-found-then-has_term-2 c = let inv = c.loop-terms.invariant in omega (arith, inv.room, inv.ordered)

pub overflow_sub-id : goal.overflow_sub-id
overflow_sub-id c = omega (arith, c.if-below-left_step.false)

pub loop-terms-smaller-then-has_term : goal.loop-terms-smaller-then-has_term
loop-terms-smaller-then-has_term c =
    let readable = c.requires.1 in
    let has = c.has_term.ensures c.if-has_term.true in
    let first = stepped _ _ _ 0 _ c.child.ensures readable (Q.id_below _ _ _ _ readable _ _ _ _ _ _ c.loop-terms.invariant) (omega (arith, has.two)) _ c.if-below-left_step.false in
    less_work _ _ _ _ _ _ (late_few _ _ _ _ _) (late_few _ _ _ _ _) (Q.takes_last_less _ _ _ _ readable _ _ _ _ _ _ c.loop-terms.invariant (sym c.kind.ensures ∙ c.if-kind-ne-ADD.false) has c.if-found-front.false _ c.child-last.ensures _ first _ _ c.put_term-then-has_term.ensures)

pub loop-terms-preserved-then-has_term : goal.loop-terms-preserved-then-has_term
loop-terms-preserved-then-has_term c =
    let readable = c.requires.1 in
    let has = c.has_term.ensures c.if-has_term.true in
    let first = stepped _ _ _ 0 _ c.child.ensures readable (Q.id_below _ _ _ _ readable _ _ _ _ _ _ c.loop-terms.invariant) (omega (arith, has.two)) _ c.if-below-left_step.false in
    Q.takes_last _ _ _ _ readable _ _ _ _ _ _ c.loop-terms.invariant (sym c.kind.ensures ∙ c.if-kind-ne-ADD.false) has c.if-found-front.false _ c.child-last.ensures _ first _ _ c.put_term-then-has_term.ensures _ (elim c.if-put_term-2.branch [ then-put_term-2 w ↦ inl (w.if-put_term-2.true, w.back-is) | else-put_term-2 w ↦ inr (w.if-put_term-2.false, w.back-is) ])

pub has_term-requires-then-top-front-2 : goal.has_term-requires-then-top-front-2
has_term-requires-then-top-front-2 c =
    let readable = c.requires.1 in
    (Q.id_below _ _ _ _ readable _ _ _ _ _ _ c.loop-terms.invariant, omega arith, readable)

pub overflow_add-found-then-has_term-2-2 : goal.overflow_add-found-then-has_term-2-2
overflow_add-found-then-has_term-2-2 c = let inv = c.loop-terms.invariant in omega (arith, inv.room, inv.ordered)

pub returns-then-found-ge-MOST_TERMS : goal.returns-then-found-ge-MOST_TERMS
returns-then-found-ge-MOST_TERMS c =
    let readable = c.requires.1 in
    Q.exceeds_two _ _ _ _ readable _ _ _ _ _ _ c.loop-terms.invariant (sym c.kind.ensures ∙ c.if-kind-ne-ADD.false) (c.has_term-then-top-front-2.ensures c.if-has_term-2.true).two (omega (arith, c.if-top-front-2.true, c.if-found-ge-MOST_TERMS.true))

pub child-requires-then-has_term-2 : goal.child-requires-then-has_term-2
child-requires-then-has_term-2 c =
    let readable = c.requires.1 in
    (omega (arith, (c.has_term-then-top-front-2.ensures c.if-has_term-2.true).two), readable.lookup _ (Q.id_below _ _ _ _ readable _ _ _ _ _ _ c.loop-terms.invariant))

pub overflow_sub-below-then-has_term-2 : goal.overflow_sub-below-then-has_term-2
overflow_sub-below-then-has_term-2 c =
    let readable = c.requires.1 in
    omega (arith, child_lower _ _ readable _ _ _ (Q.id_below _ _ _ _ readable _ _ _ _ _ _ c.loop-terms.invariant) c.child-then-has_term-2.ensures (omega (arith, (c.has_term-then-top-front-2.ensures c.if-has_term-2.true).two)))

pub loop-terms-smaller-then-below-right_step : goal.loop-terms-smaller-then-below-right_step
loop-terms-smaller-then-below-right_step c = less_late_right _ _ _ _ (noted _ _ _ 1 _ c.child-then-has_term-2.ensures _ c.if-below-right_step.true)

pub loop-terms-preserved-then-below-right_step : goal.loop-terms-preserved-then-below-right_step
loop-terms-preserved-then-below-right_step c = c.loop-terms.invariant

pub child-first-requires : goal.child-first-requires
child-first-requires c =
    let readable = c.requires.1 in
    (Q.has_child _ _ _ _ readable _ _ _ _ _ _ c.loop-terms.invariant (sym c.kind.ensures ∙ c.if-kind-ne-ADD.false), readable.lookup _ (Q.id_below _ _ _ _ readable _ _ _ _ _ _ c.loop-terms.invariant))

pub put_term-requires-then-has_term-2 : goal.put_term-requires-then-has_term-2
put_term-requires-then-has_term-2 c =
    let readable = c.requires.1 in
    (readable.lookup _ (child_below _ _ readable _ _ _ (Q.id_below _ _ _ _ readable _ _ _ _ _ _ c.loop-terms.invariant) c.child-first.ensures (Q.has_child _ _ _ _ readable _ _ _ _ _ _ c.loop-terms.invariant (sym c.kind.ensures ∙ c.if-kind-ne-ADD.false))), omega (arith, c.loop-terms.invariant.few, c.if-found-ge-MOST_TERMS.false), c.loop-terms.invariant.long)

pub overflow_add-front : goal.overflow_add-front
overflow_add-front c = omega (arith, c.loop-terms.invariant.few, c.if-found-ge-MOST_TERMS.false)

pub overflow_add-found-then-has_term-2-3 : goal.overflow_add-found-then-has_term-2-3
overflow_add-found-then-has_term-2-3 c = omega (arith, c.if-found-ge-MOST_TERMS.false)

pub overflow_sub-id-then-has_term-2 : goal.overflow_sub-id-then-has_term-2
overflow_sub-id-then-has_term-2 c = omega (arith, c.if-below-right_step.false)

pub loop-terms-smaller-then-has_term-2 : goal.loop-terms-smaller-then-has_term-2
loop-terms-smaller-then-has_term-2 c =
    let readable = c.requires.1 in
    let has = c.has_term-then-top-front-2.ensures c.if-has_term-2.true in
    let last = stepped _ _ _ 1 _ c.child-then-has_term-2.ensures readable (Q.id_below _ _ _ _ readable _ _ _ _ _ _ c.loop-terms.invariant) (omega (arith, has.two)) _ c.if-below-right_step.false in
    less_work _ _ _ _ _ _ (late_few _ _ _ _ _) (late_few _ _ _ _ _) (Q.takes_first_less _ _ _ _ readable _ _ _ _ _ _ c.loop-terms.invariant (sym c.kind.ensures ∙ c.if-kind-ne-ADD.false) c.if-top-front-2.true has c.if-found-ge-MOST_TERMS.false _ c.child-first.ensures _ last _ _ c.put_term-then-has_term-2.ensures _ (elim c.if-put_term-3.branch [ then-put_term-3 w ↦ inl (w.if-put_term-3.true, w.front-is) | else-put_term-3 w ↦ inr (w.if-put_term-3.false, w.front-is) ]))

pub loop-terms-preserved-then-has_term-2 : goal.loop-terms-preserved-then-has_term-2
loop-terms-preserved-then-has_term-2 c =
    let readable = c.requires.1 in
    let has = c.has_term-then-top-front-2.ensures c.if-has_term-2.true in
    let last = stepped _ _ _ 1 _ c.child-then-has_term-2.ensures readable (Q.id_below _ _ _ _ readable _ _ _ _ _ _ c.loop-terms.invariant) (omega (arith, has.two)) _ c.if-below-right_step.false in
    Q.takes_first _ _ _ _ readable _ _ _ _ _ _ c.loop-terms.invariant (sym c.kind.ensures ∙ c.if-kind-ne-ADD.false) c.if-top-front-2.true has c.if-found-ge-MOST_TERMS.false _ c.child-first.ensures _ last _ _ c.put_term-then-has_term-2.ensures _ (elim c.if-put_term-3.branch [ then-put_term-3 w ↦ inl (w.if-put_term-3.true, w.front-is) | else-put_term-3 w ↦ inr (w.if-put_term-3.false, w.front-is) ])

pub overflow_sub-free : goal.overflow_sub-free
overflow_sub-free c = omega arith

pub overflow_sub-free-else-top-front-2 : goal.overflow_sub-free-else-top-front-2
overflow_sub-free-else-top-front-2 c = let inv = c.loop-terms.invariant in omega (arith, inv.room, inv.ordered)

pub push_siblings-requires : goal.push_siblings-requires
push_siblings-requires c =
    let readable = c.requires.1 in
    (readable.lookup _ (Q.id_below _ _ _ _ readable _ _ _ _ _ _ c.loop-terms.invariant), Q.has_child _ _ _ _ readable _ _ _ _ _ _ c.loop-terms.invariant (sym c.kind.ensures ∙ c.if-kind-ne-ADD.false), omega (arith, c.loop-terms.invariant.room, c.loop-terms.invariant.ordered), omega (arith, c.loop-terms.invariant.few), c.loop-terms.invariant.long)

pub returns-in_default : goal.returns-in_default
returns-in_default c =
    let readable = c.requires.1 in
    Q.exceeds _ _ _ _ readable _ _ _ _ _ _ c.loop-terms.invariant (sym c.kind.ensures ∙ c.if-kind-ne-ADD.false) _ _ c.push_siblings.ensures c.in_default.is

pub arity-requires : goal.arity-requires
arity-requires c =
    let readable = c.requires.1 in
    readable.lookup _ (Q.id_below _ _ _ _ readable _ _ _ _ _ _ c.loop-terms.invariant)

pub overflow_sub-last : goal.overflow_sub-last
overflow_sub-last c =
    let readable = c.requires.1 in
    omega (arith, c.arity.ensures, Q.has_child _ _ _ _ readable _ _ _ _ _ _ c.loop-terms.invariant (sym c.kind.ensures ∙ c.if-kind-ne-ADD.false))

pub child-id-requires : goal.child-id-requires
child-id-requires c =
    let readable = c.requires.1 in
    (omega (arith, c.arity.ensures, Q.has_child _ _ _ _ readable _ _ _ _ _ _ c.loop-terms.invariant (sym c.kind.ensures ∙ c.if-kind-ne-ADD.false)), readable.lookup _ (Q.id_below _ _ _ _ readable _ _ _ _ _ _ c.loop-terms.invariant))

pub loop-terms-smaller : goal.loop-terms-smaller
loop-terms-smaller c =
    let readable = c.requires.1 in
    less_work _ _ _ _ _ _ (late_few _ _ _ _ _) (late_few _ _ _ _ _) (Q.opens_less _ _ _ _ readable _ _ _ _ _ _ c.loop-terms.invariant (sym c.kind.ensures ∙ c.if-kind-ne-ADD.false) _ _ c.push_siblings.ensures _ c.in-Some.is _ c.arity.ensures _ c.child-id.ensures)

pub loop-terms-preserved : goal.loop-terms-preserved
loop-terms-preserved c =
    let readable = c.requires.1 in
    Q.opens _ _ _ _ readable _ _ _ _ _ _ c.loop-terms.invariant (sym c.kind.ensures ∙ c.if-kind-ne-ADD.false) _ _ c.push_siblings.ensures _ c.in-Some.is _ c.arity.ensures _ c.child-id.ensures
