-- The slots passed hold lower ids, of other nodes.
use Rattle.std.proofs.Common.{ℕ, suc, ◌≡◌, ◌<◌, ◌%◌, ◌∙◌, refl, sym, ap, arith, rules}
use Rattle.std.proofs.Math.Nat.{mod-lt}
use Rattle.arena.specs.Node.{node_at}
use Rattle.slots.proofs.Doubling.{positive}
use Rattle.slots.proofs.Rounds.{round_from}
use Rattle.table_audit.proofs.OwnSlots.{formed_below, meets_here, meets_empty, meets_greater, meets_one, one_more, meets_nowhere}
use Rattle.table_audit.proofs.meets_own.Goals as goal

pub overflow_mul-hash : goal.overflow_mul-hash
overflow_mul-hash c = let f = c.requires.1.fits in let l = c.requires.0 in search rules

pub overflow_add-hash : goal.overflow_add-hash
overflow_add-hash c = let f = c.requires.1.fits in let l = c.requires.0 in search rules

pub offset_bounds-nodes-id : goal.offset_bounds-nodes-id
offset_bounds-nodes-id c = let f = c.requires.1.fits in let l = c.requires.0 in search rules

pub bounds-nodes-id : goal.bounds-nodes-id
bounds-nodes-id c = let f = c.requires.1.fits in let l = c.requires.0 in omega arith

pub overflow_add-own : goal.overflow_add-own
overflow_add-own c = let f = c.requires.1.many in let l = c.requires.0 in search rules

pub overflow_cast-own : goal.overflow_cast-own
overflow_cast-own c = let f = c.requires.1.many in let l = c.requires.0 in search rules

pub modulo_size-home-requires : goal.modulo_size-home-requires
modulo_size-home-requires c = c.requires.2.doubled

pub loop-far-init : goal.loop-far-init
unfolding node_at
loop-far-init c = record { before = λ d l. absurd (omega arith); hashed = refl }

pub overflow_add-home : goal.overflow_add-home
overflow_add-home c =
    let l = c.requires.2.sized in
    let h : c.modulo_size-home.result < c.args.arena.size = rw c.modulo_size-home.ensures (mod-lt _ (positive _ c.requires.2.doubled)) in
    search rules

pub modulo_size-requires : goal.modulo_size-requires
modulo_size-requires c = c.requires.2.doubled

pub offset_bounds-slots-modulo_size : goal.offset_bounds-slots-modulo_size
offset_bounds-slots-modulo_size c =
    let l = c.requires.2.sized in
    let h : c.modulo_size.result < c.args.arena.size = rw c.modulo_size.ensures (mod-lt _ (positive _ c.requires.2.doubled)) in
    search rules

pub bounds-slots-modulo_size : goal.bounds-slots-modulo_size
bounds-slots-modulo_size c =
    let l = c.requires.2.sized in
    let h : c.modulo_size.result < c.args.arena.size = rw c.modulo_size.ensures (mod-lt _ (positive _ c.requires.2.doubled)) in
    omega arith

pub returns-then-slot-own : goal.returns-then-slot-own
returns-then-slot-own c = meets_here _ _ _ _ _ c.loop-far.invariant.before _ (c.modulo_size.ensures ∙ round_from _ _ _ _ (c.modulo_size-home.ensures ∙ ap (λ (h : ℕ). h % c.args.arena.size) c.loop-far.invariant.hashed)) c.loop-far-test.true (let e = c.if-slot-own.true in omega arith)

pub returns-then-slot-eq0 : goal.returns-then-slot-eq0
returns-then-slot-eq0 c = meets_empty _ _ _ _ _ c.loop-far.invariant.before _ (c.modulo_size.ensures ∙ round_from _ _ _ _ (c.modulo_size-home.ensures ∙ ap (λ (h : ℕ). h % c.args.arena.size) c.loop-far.invariant.hashed)) c.if-slot-eq0.true

pub returns-then-own-slot : goal.returns-then-own-slot
returns-then-own-slot c = meets_greater _ _ _ _ _ c.loop-far.invariant.before _ (c.modulo_size.ensures ∙ round_from _ _ _ _ (c.modulo_size-home.ensures ∙ ap (λ (h : ℕ). h % c.args.arena.size) c.loop-far.invariant.hashed)) (let l = c.if-own-slot.true in omega arith)

pub is_one_with-requires : goal.is_one_with-requires
is_one_with-requires c =
    let used = c.if-slot-eq0.false in
    let lower = c.if-own-slot.false in
    let own = c.if-slot-own.false in
    (omega arith, omega arith, formed_below c.args.nodes.now (suc c.args.id) c.args.arena.count c.requires.0 c.requires.1, c.loop-far.invariant.hashed)

pub returns-then-is_one_with : goal.returns-then-is_one_with
returns-then-is_one_with c =
    let used = c.if-slot-eq0.false in
    let lower = c.if-own-slot.false in
    let own = c.if-slot-own.false in
    meets_one _ _ _ _ _ c.loop-far.invariant.before _ (c.modulo_size.ensures ∙ round_from _ _ _ _ (c.modulo_size-home.ensures ∙ ap (λ (h : ℕ). h % c.args.arena.size) c.loop-far.invariant.hashed)) (omega arith) (omega arith) (sym c.is_one_with.ensures ∙ c.if-is_one_with.true)

pub loop-far-preserved : goal.loop-far-preserved
loop-far-preserved c =
    let i = c.loop-far.invariant in
    let used = c.if-slot-eq0.false in
    let lower = c.if-own-slot.false in
    let own = c.if-slot-own.false in
    record {
      before = one_more c.args.nodes.now c.args.slots.now c.args.arena.size c.args.id _ i.before _ (c.modulo_size.ensures ∙ round_from _ _ _ _ (c.modulo_size-home.ensures ∙ ap (λ (h : ℕ). h % c.args.arena.size) c.loop-far.invariant.hashed)) (omega arith) (omega arith) (sym c.is_one_with.ensures ∙ c.if-is_one_with.false);
      hashed = i.hashed;
    }

pub returns : goal.returns
returns c = meets_nowhere _ _ _ _ _ c.loop-far.invariant.before (omega arith)
