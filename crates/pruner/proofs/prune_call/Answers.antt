use Prim.Native.Nat.{ℕ}
use mathlib.Core.Path.{◌≡◌, subst}
use Rattle.std.specs.Prelude.{Option, Ok}
use Rattle.std.proofs.lemmas.Result.{err_from_is_err_and}
use Rattle.store.specs.Held.{held}
use Rattle.pruner.proofs.Pruning as Q
use Rattle.pruner.proofs.prune_call.Goals as goal

pub returns-then-store-id-clause-prunes : goal.returns-then-store-id-clause-prunes
returns-then-store-id-clause-prunes c = Q.no_root _ _ _ c.args.store.now.sound _ c.args.threshold (rw c.from-id.ensures at c.if-store-id.true)

pub returns-in_err-bits-clause-prunes : goal.returns-in_err-bits-clause-prunes
returns-in_err-bits-clause-prunes c =
    let p = err_from_is_err_and c.from_residual.result c.from_residual.ensures.1 in
    rw (p.1, p.2) (Q.no_threshold _ _ _ c.args.store.now.sound _ (rw c.from-id.ensures at c.if-store-id.false) _ _ c.in_err-bits.was)

pub returns-in-Some-clause-prunes : goal.returns-in-Some-clause-prunes
returns-in-Some-clause-prunes c =
    let e = subst (λ (x : Option ℕ). c.args.threshold ≡ Ok x) c.in-Some.is c.in_ok-bits.was in
    Q.at_root _ _ _ c.args.store.now.sound _ (rw c.from-id.ensures at c.if-store-id.false) _ _ e _ (held c.prune_additive_chain.new.store) (rw c.from-id.ensures at c.prune_additive_chain.ensures.prunes)

pub returns-in-None-clause-prunes : goal.returns-in-None-clause-prunes
returns-in-None-clause-prunes c =
    let e = subst (λ (x : Option ℕ). c.args.threshold ≡ Ok x) c.in-None.is c.in_ok-bits.was in
    rw c.from-id.ensures (Q.answers_root _ _ _ c.args.store.now.sound _ (rw c.from-id.ensures at c.if-store-id.false) _ e)
