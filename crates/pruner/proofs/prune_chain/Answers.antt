use Prim.Native.Nat.{ℕ}
use lib.ListN.{length-replicate}
use native.Mathlib.Omega.{arith}
use Rattle.std.proofs.lemmas.Result.{err_from_is_err_and}
use Rattle.store.specs.Held.{held}
use Rattle.pruner.proofs.Pruning as Q
use Rattle.pruner.proofs.prune_chain.Goals as goal

pub kept_terms-requires : goal.kept_terms-requires
kept_terms-requires c = (c.requires, length-replicate {A = ℕ} 4096 0)

pub returns-in_err-flat-clause-prunes : goal.returns-in_err-flat-clause-prunes
returns-in_err-flat-clause-prunes c =
    let p = err_from_is_err_and c.from_residual.result c.from_residual.ensures.1 in
    let many = Q.too_many_of _ _ _ _ _ c.kept_terms.ensures c.in_err-flat.was in
    rw (p.1, p.2) (Q.too_many _ _ _ c.args.store.now.sound _ c.requires _ _ many.0 many.1)

pub sum_of_terms-requires : goal.sum_of_terms-requires
sum_of_terms-requires c =
    let f = c.kept_terms.ensures in
    let holds = Q.holds_of _ _ _ _ _ f c.in_ok-flat.was in
    (record { long = f.long; fits = holds.3 }, Q.low_terms _ _ _ c.args.store.now.sound _ c.requires _ _ _ _ _ holds)

pub returns-in_err-id-clause-prunes : goal.returns-in_err-id-clause-prunes
returns-in_err-id-clause-prunes c =
    let p = err_from_is_err_and c.from_residual-in_err-id.result c.from_residual-in_err-id.ensures.1 in
    let holds = Q.holds_of _ _ _ _ _ c.kept_terms.ensures c.in_ok-flat.was in
    rw (p.1, p.2) (Q.stops _ _ _ c.args.store.now.sound _ c.requires _ _ _ _ _ holds (held c.sum_of_terms.new.store) _ c.sum_of_terms.ensures.sums _ c.in_err-id.was)

pub overflow_sub-result : goal.overflow_sub-result
overflow_sub-result c =
    let holds = Q.holds_of _ _ _ _ _ c.kept_terms.ensures c.in_ok-flat.was in
    let few = Q.few _ _ _ c.args.store.now.sound _ c.requires _ _ _ _ _ holds in
    omega arith

pub returns-clause-prunes : goal.returns-clause-prunes
returns-clause-prunes c =
    let holds = Q.holds_of _ _ _ _ _ c.kept_terms.ensures c.in_ok-flat.was in
    Q.answered _ _ _ c.args.store.now.sound _ c.requires _ _ _ _ _ holds (held c.sum_of_terms.new.store) _ c.sum_of_terms.ensures.sums _ c.in_ok-id.was
