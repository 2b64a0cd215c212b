-- The bounds come from the walk's invariant; each way out cites its case of Turning.
use native.Mathlib.Omega.{arith}
use Rattle.definitions.specs.Modes.{mode_of}
use Rattle.std.proofs.lemmas.Result.{err_from_is_err_and}
use Rattle.store.specs.Held.{held}
use Rattle.turns.proofs.Turning as T
use Rattle.turns.proofs.turn.turn.Goals as goal

pub arity-requires : goal.arity-requires
arity-requires c = T.below (held c.args.store.now) _ _ c.args.store.now.sound c.requires

pub overflow_sub-base : goal.overflow_sub-base
overflow_sub-base c = let b = T.bounds (held c.args.store.now) _ _ c.args.store.now.sound c.requires in omega arith

pub leave-requires-clause-room : goal.leave-requires-clause-room
leave-requires-clause-room c = let b = T.bounds (held c.args.store.now) _ _ c.args.store.now.sound c.requires in omega arith

pub leave-requires-clause-id : goal.leave-requires-clause-id
leave-requires-clause-id c = T.id_small (held c.args.store.now) _ _ c.args.store.now.sound c.requires

pub returns-then-limit-top-clause-turns : goal.returns-then-limit-top-clause-turns
returns-then-limit-top-clause-turns c = rw c.leave.ensures (T.at_limit (held c.args.store.now) _ _ c.args.store.now.sound c.requires (mode_of c.args.mode) c.if-limit-top.true)

pub descend-requires : goal.descend-requires
descend-requires c = T.descendable (held c.args.store.now) _ _ c.args.store.now.sound c.requires c.if-limit-top.false _ c.arity.ensures c.if-taken-arity.true

pub returns-then-taken-arity-clause-turns : goal.returns-then-taken-arity-clause-turns
returns-then-taken-arity-clause-turns c = T.descended (held c.args.store.now) _ _ c.args.store.now.sound c.requires c.if-limit-top.false _ c.arity.ensures (mode_of c.args.mode) c.if-taken-arity.true _ c.descend.ensures

pub offset_bounds-arrays-base : goal.offset_bounds-arrays-base
offset_bounds-arrays-base c = let b = T.bounds (held c.args.store.now) _ _ c.args.store.now.sound c.requires in omega arith

pub slice_bounds-children-end : goal.slice_bounds-children-end
slice_bounds-children-end c = let b = T.bounds (held c.args.store.now) _ _ c.args.store.now.sound c.requires in omega arith

pub finish_in-requires : goal.finish_in-requires
finish_in-requires c = T.rebuildable (held c.args.store.now) _ _ c.args.store.now.sound c.requires c.if-limit-top.false _ c.arity.ensures c.if-taken-arity.false

pub leave-requires-2-clause-room : goal.leave-requires-2-clause-room
leave-requires-2-clause-room c = let b = T.bounds (held c.args.store.now) _ _ c.args.store.now.sound c.requires in omega arith

pub leave-requires-2-clause-id : goal.leave-requires-2-clause-id
leave-requires-2-clause-id c = T.result_small (held c.args.store.now) _ _ c.args.store.now.sound c.requires c.if-limit-top.false _ c.arity.ensures c.if-taken-arity.false (mode_of c.args.mode) (held c.finish_in.new.store) _ c.in_ok-rewritten.ensures.finishes

pub returns-in_err-rewritten-clause-turns : goal.returns-in_err-rewritten-clause-turns
returns-in_err-rewritten-clause-turns c =
    let p = err_from_is_err_and c.from_residual.result c.from_residual.ensures.1 in
    rw (p.1, p.2) (T.stops (held c.args.store.now) _ _ c.args.store.now.sound c.requires c.if-limit-top.false _ c.arity.ensures c.if-taken-arity.false (mode_of c.args.mode) (held c.finish_in.new.store) _ c.in_err-rewritten.ensures.finishes)

pub returns-clause-turns : goal.returns-clause-turns
returns-clause-turns c = rw c.leave-2.ensures (T.answers (held c.args.store.now) _ _ c.args.store.now.sound c.requires c.if-limit-top.false _ c.arity.ensures c.if-taken-arity.false (mode_of c.args.mode) (held c.finish_in.new.store) _ c.in_ok-rewritten.ensures.finishes)
