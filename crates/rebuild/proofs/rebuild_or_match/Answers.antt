-- By what the patterns answer.
use Rattle.definitions.specs.Modes.{mode_of}
use Rattle.std.proofs.Common.{rules}
use Rattle.std.proofs.lemmas.Result.{err_from_is_err_and}
use Rattle.store.specs.Held.{held}
use Rattle.rebuild.proofs.Rebuilding as B
use Rattle.rebuild.proofs.rebuild_or_match.Goals as goal

pub apply_in-requires : goal.apply_in-requires
apply_in-requires c = B.operands (held c.args.store.now) _ _ c.requires

pub returns-in_err-rewritten-clause-rebuilds : goal.returns-in_err-rewritten-clause-rebuilds
returns-in_err-rewritten-clause-rebuilds c =
    let p = err_from_is_err_and c.from_residual.result c.from_residual.ensures.1 in
    rw (p.1, p.2) (B.stopped_at (held c.args.store.now) _ _ c.requires _ c.kind-kind.ensures (mode_of c.args.mode) (held c.apply_in.new.store) _ c.in_err-rewritten.ensures.applies)

pub returns-in-Some-clause-rebuilds : goal.returns-in-Some-clause-rebuilds
returns-in-Some-clause-rebuilds c =
    B.matched (held c.args.store.now) _ _ c.requires _ c.kind-kind.ensures (mode_of c.args.mode) (held c.apply_in.new.store) _ (rw (← c.in-Some.is) c.in_ok-rewritten.ensures.applies)

pub rebuild-requires : goal.rebuild-requires
rebuild-requires c = B.still (held c.args.store.now) _ _ c.requires _ c.kind-kind.ensures (mode_of c.args.mode) (held c.apply_in.new.store) (rw (← c.in_default.is) c.in_ok-rewritten.ensures.applies)

pub returns-in_err-id-clause-rebuilds : goal.returns-in_err-id-clause-rebuilds
returns-in_err-id-clause-rebuilds c =
    let p = err_from_is_err_and c.from_residual-in_err-id.result c.from_residual-in_err-id.ensures.1 in
    rw (p.1, p.2) (B.declined_stopped (held c.args.store.now) _ _ c.requires _ c.kind-kind.ensures (mode_of c.args.mode) (held c.apply_in.new.store) (rw (← c.in_default.is) c.in_ok-rewritten.ensures.applies) _ (held c.rebuild.new.store) c.in_err-id.ensures.anew)

pub returns-clause-rebuilds : goal.returns-clause-rebuilds
returns-clause-rebuilds c = B.declined (held c.args.store.now) _ _ c.requires _ c.kind-kind.ensures (mode_of c.args.mode) (held c.apply_in.new.store) (rw (← c.in_default.is) c.in_ok-rewritten.ensures.applies) _ (held c.rebuild.new.store) c.in_ok-id.ensures.anew
