-- The slots passed are in use by other nodes.
use Rattle.std.proofs.Common.{◌<◌, ◌∙◌, refl, sym, arith, rules}
use Rattle.std.proofs.Math.Nat.{mod-lt}
use Rattle.slots.proofs.Doubling.{positive}
use Rattle.dedup.proofs.KeyParts.{key_round}
use Rattle.dedup.proofs.Searching.{passed_none, passed_more, ends_free, ends_here, ends_nowhere}
use Rattle.dedup.proofs.probing.probe.Goals as goal

pub modulo_size-home-requires : goal.modulo_size-home-requires
modulo_size-home-requires c = c.requires.0.doubled

pub loop-far-init : goal.loop-far-init
loop-far-init c = passed_none _ _ _ _ _ _ refl

pub overflow_add-home : goal.overflow_add-home
overflow_add-home c =
    let l = c.requires.0.sized in
    let h : c.modulo_size-home.result < c.args.size = rw c.modulo_size-home.ensures (mod-lt _ (positive _ c.requires.0.doubled)) in
    search rules

pub modulo_size-at-requires : goal.modulo_size-at-requires
modulo_size-at-requires c = c.requires.0.doubled

pub offset_bounds-slots-at : goal.offset_bounds-slots-at
offset_bounds-slots-at c =
    let l = c.requires.0.sized in
    let h : c.modulo_size-at.result < c.args.size = rw c.modulo_size-at.ensures (mod-lt _ (positive _ c.requires.0.doubled)) in
    search rules

pub bounds-slots-at : goal.bounds-slots-at
bounds-slots-at c =
    let l = c.requires.0.sized in
    let h : c.modulo_size-at.result < c.args.size = rw c.modulo_size-at.ensures (mod-lt _ (positive _ c.requires.0.doubled)) in
    omega arith

pub returns-then-slot-eq0 : goal.returns-then-slot-eq0
returns-then-slot-eq0 c = ends_free _ _ _ _ _ _ c.loop-far.invariant _ (key_round c.args.key _ _ _ _ c.modulo_size-home.ensures c.modulo_size-at.ensures) c.loop-far-test.true c.if-slot-eq0.true

pub slot_holds-requires : goal.slot_holds-requires
slot_holds-requires c = let n = c.if-slot-eq0.false in (omega arith, c.requires.0.formed, c.requires.1)

pub returns-then-slot_holds : goal.returns-then-slot_holds
returns-then-slot_holds c = ends_here _ _ _ _ _ _ c.loop-far.invariant _ (key_round c.args.key _ _ _ _ c.modulo_size-home.ensures c.modulo_size-at.ensures) c.loop-far-test.true (sym c.slot_holds.ensures ∙ c.if-slot_holds.true)

pub loop-far-preserved : goal.loop-far-preserved
loop-far-preserved c = passed_more _ _ _ _ _ _ c.loop-far.invariant _ (key_round c.args.key _ _ _ _ c.modulo_size-home.ensures c.modulo_size-at.ensures) c.if-slot-eq0.false (sym c.slot_holds.ensures ∙ c.if-slot_holds.false)

pub returns : goal.returns
returns c = ends_nowhere _ _ _ _ _ _ (omega arith) c.loop-far.invariant
