-- The slots passed are in use. The table has an empty one, so they are fewer than its slots.
use Rattle.std.proofs.Common.{◌<◌, arith, rules}
use Rattle.std.proofs.Math.Nat.{mod-lt}
use Rattle.slots.proofs.Doubling.{positive}
use Rattle.slots.proofs.FreePlaces.{none_passed, not_round, one_passed, free_met}
use Rattle.slots.proofs.filling.free_from.Goals as goal

pub loop-far-init : goal.loop-far-init
loop-far-init c = none_passed c.args.slots.now c.args.size c.args.home 0 (search rules)

pub overflow_add-home : goal.overflow_add-home
overflow_add-home c = let l = c.requires.1.sized in let h = c.requires.0 in search rules

pub modulo_size-at-requires : goal.modulo_size-at-requires
modulo_size-at-requires c = c.requires.1.doubled

pub offset_bounds-slots-at : goal.offset_bounds-slots-at
offset_bounds-slots-at c =
    let l = c.requires.1.sized in
    let h : c.modulo_size-at.result < c.args.size = rw c.modulo_size-at.ensures (mod-lt _ (positive _ c.requires.1.doubled)) in
    search rules

pub bounds-slots-at : goal.bounds-slots-at
bounds-slots-at c =
    let l = c.requires.1.sized in
    let h : c.modulo_size-at.result < c.args.size = rw c.modulo_size-at.ensures (mod-lt _ (positive _ c.requires.1.doubled)) in
    omega arith

pub returns-then-slots-at-eq0 : goal.returns-then-slots-at-eq0
returns-then-slots-at-eq0 c = free_met _ _ _ _ c.loop-far.invariant _ c.modulo_size-at.ensures c.requires.1 c.if-slots-at-eq0.true

pub loop-far-preserved : goal.loop-far-preserved
loop-far-preserved c = one_passed c.args.slots.now c.args.size c.args.home c.loop-far.far c.loop-far.invariant _ c.modulo_size-at.ensures c.if-slots-at-eq0.false

pub returns : goal.returns
returns c = absurd (let l = not_round _ _ _ _ c.requires.1 c.loop-far.invariant in omega arith)
