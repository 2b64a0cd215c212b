-- One law for each answer, by the turn so far.
use Prim.Native.Nat.{ℕ}
use lib.ListN.{length-replicate}
use native.Mathlib.Omega.{arith}
use Rattle.std.proofs.Common.{rules}
use Rattle.std.proofs.lemmas.Result.{err_from_is_err_and}
use Rattle.sums.specs.Sums.{most_pending}
use Rattle.sums.proofs.Summing as Q
use Rattle.sums.proofs.sum.sum.Goals as goal

pub sum_of_few-requires : goal.sum_of_few-requires
sum_of_few-requires c =
    let p = c.requires in
    Q.summable _ _ _ c.args.store.now.sound _ _ _ p.0 p.1 p.2 _ _ _ _ _ _ _ _ c.loop-id.invariant.1 _ _ _ c.split-rest.ensures

pub returns-in_err-id-clause-sums : goal.returns-in_err-id-clause-sums
returns-in_err-id-clause-sums c =
    let p = c.requires in
    let e = err_from_is_err_and c.from_residual.result c.from_residual.ensures.1 in
    rw (e.1, e.2) (Q.stops _ _ _ c.args.store.now.sound _ _ _ p.0 p.1 p.2 _ _ _ _ _ _ _ _ c.loop-id.invariant.1 _ _ _ c.split-rest.ensures _ _ _ _ c.sum_of_few.ensures.sums _ c.in_err-id.was)

pub overflow_add-at : goal.overflow_add-at
overflow_add-at c =
    let p = c.requires in
    omega (arith, Q.place_inside _ _ _ c.args.store.now.sound _ _ _ p.0 p.1 p.2 _ _ _ _ _ _ _ _ c.loop-id.invariant.1 _ _ _ c.split-rest.ensures)

pub join-requires : goal.join-requires
join-requires c =
    let p = c.requires in
    Q.joinable _ _ _ c.args.store.now.sound _ _ _ p.0 p.1 p.2 _ _ _ _ _ _ _ _ c.loop-id.invariant.1 _ _ _ c.split-rest.ensures _ _ _ _ c.sum_of_few.ensures.sums _ c.in_ok-id.was

pub returns-in_err-depth-clause-sums : goal.returns-in_err-depth-clause-sums
returns-in_err-depth-clause-sums c =
    let p = c.requires in
    let e = err_from_is_err_and c.from_residual-in_err-depth.result c.from_residual-in_err-depth.ensures.1 in
    rw (e.1, e.2) (Q.stops_joining _ _ _ c.args.store.now.sound _ _ _ p.0 p.1 p.2 _ _ _ _ _ _ _ _ c.loop-id.invariant.1 _ _ _ c.split-rest.ensures _ _ _ _ c.sum_of_few.ensures.sums _ c.in_ok-id.was _ _ _ _ _ c.join.ensures.joins _ c.in_err-depth.was)

pub returns-then-depth-eq0-clause-sums : goal.returns-then-depth-eq0-clause-sums
returns-then-depth-eq0-clause-sums c =
    let p = c.requires in
    Q.ends _ _ _ c.args.store.now.sound _ _ _ p.0 p.1 p.2 _ _ _ _ _ _ _ _ c.loop-id.invariant.1 _ _ _ c.split-rest.ensures _ _ _ _ c.sum_of_few.ensures.sums _ c.in_ok-id.was _ _ _ _ _ c.join.ensures.joins _ c.in_ok-depth.was c.if-depth-eq0.true

pub offset_bounds-rights-depth : goal.offset_bounds-rights-depth
offset_bounds-rights-depth c =
    let p = c.requires in
    omega (arith, Q.shallow _ _ _ c.args.store.now.sound _ _ _ p.0 p.1 p.2 _ _ _ _ _ _ _ _ c.loop-id.invariant.1 _ _ _ c.split-rest.ensures _ _ _ _ c.sum_of_few.ensures.sums _ c.in_ok-id.was _ _ _ _ _ c.join.ensures.joins _ c.in_ok-depth.was)

pub bounds-rights-depth : goal.bounds-rights-depth
bounds-rights-depth c =
    let p = c.requires in
    omega (arith, Q.shallow _ _ _ c.args.store.now.sound _ _ _ p.0 p.1 p.2 _ _ _ _ _ _ _ _ c.loop-id.invariant.1 _ _ _ c.split-rest.ensures _ _ _ _ c.sum_of_few.ensures.sums _ c.in_ok-id.was _ _ _ _ _ c.join.ensures.joins _ c.in_ok-depth.was)

pub offset_bounds-rights-depth-in-loop-id : goal.offset_bounds-rights-depth-in-loop-id
offset_bounds-rights-depth-in-loop-id c =
    let p = c.requires in
    omega (arith, Q.shallow _ _ _ c.args.store.now.sound _ _ _ p.0 p.1 p.2 _ _ _ _ _ _ _ _ c.loop-id.invariant.1 _ _ _ c.split-rest.ensures _ _ _ _ c.sum_of_few.ensures.sums _ c.in_ok-id.was _ _ _ _ _ c.join.ensures.joins _ c.in_ok-depth.was)

pub bounds-rights-depth-in-loop-id : goal.bounds-rights-depth-in-loop-id
bounds-rights-depth-in-loop-id c =
    let p = c.requires in
    omega (arith, Q.shallow _ _ _ c.args.store.now.sound _ _ _ p.0 p.1 p.2 _ _ _ _ _ _ _ _ c.loop-id.invariant.1 _ _ _ c.split-rest.ensures _ _ _ _ c.sum_of_few.ensures.sums _ c.in_ok-id.was _ _ _ _ _ c.join.ensures.joins _ c.in_ok-depth.was)

pub loop-id-smaller : goal.loop-id-smaller
loop-id-smaller c =
    let p = c.requires in
    let some = Q.before _ _ _ c.args.store.now.sound _ _ _ p.0 p.1 p.2 _ _ _ _ _ _ _ _ c.loop-id.invariant.1 _ _ _ c.split-rest.ensures in
    omega arith

pub loop-id-preserved : goal.loop-id-preserved
loop-id-preserved c =
    let p = c.requires in
    let i = Q.goes_on _ _ _ c.args.store.now.sound _ _ _ p.0 p.1 p.2 _ _ _ _ _ _ _ _ c.loop-id.invariant.1 _ _ _ c.split-rest.ensures _ _ _ _ c.sum_of_few.ensures.sums _ c.in_ok-id.was _ _ _ _ _ c.join.ensures.joins _ c.in_ok-depth.was c.if-depth-eq0.false in
    (search rules, i)
