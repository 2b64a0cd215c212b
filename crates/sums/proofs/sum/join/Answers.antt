use Prim.Native.Nat.{◌+◌, ◌-◌}
use mathlib.Core.Path.{◌≡◌}
use native.Mathlib.Omega.{arith}
use Rattle.std.proofs.Common.{rules}
use Rattle.std.proofs.lemmas.Result.{err_from_is_err_and}
use Rattle.sums.proofs.Joining as Q
use Rattle.sums.proofs.sum.join.Goals as goal

pub returns-then-rights-place-ne0-clause-joins : goal.returns-then-rights-place-ne0-clause-joins
returns-then-rights-place-ne0-clause-joins c =
    let e : c.loop-place.place - 1 + 1 ≡ c.loop-place.place = omega (arith, c.loop-place-test.true) in
    rw e (Q.stays _ _ _ _ _ _ _ _ _ _ _ _ _ c.loop-place.invariant.1 c.loop-place-test.true c.if-rights-place-ne0.true)

pub add-requires : goal.add-requires
add-requires c =
    let a = Q.addable _ _ _ _ _ _ _ _ _ _ _ _ _ c.loop-place.invariant.1 c.loop-place-test.true c.if-rights-place-ne0.false c.requires.3 in
    search rules

pub returns-in_err-sum-clause-joins : goal.returns-in_err-sum-clause-joins
returns-in_err-sum-clause-joins c =
    let p = err_from_is_err_and c.from_residual.result c.from_residual.ensures.1 in
    rw (p.1, p.2) (Q.stops _ _ _ _ _ _ _ _ _ _ _ _ _ c.loop-place.invariant.1 c.loop-place-test.true c.if-rights-place-ne0.false _ _ _ _ c.add.ensures.adds _ c.in_err-sum.was)

pub loop-place-preserved : goal.loop-place-preserved
loop-place-preserved c =
    let i = Q.goes_on _ _ _ _ _ _ _ _ _ _ _ _ _ c.loop-place.invariant.1 c.loop-place-test.true c.if-rights-place-ne0.false _ _ _ _ c.add.ensures.adds _ c.in_ok-sum.was in
    (search rules, i)

pub returns-clause-joins : goal.returns-clause-joins
returns-clause-joins c = Q.ends _ _ _ _ _ _ _ _ _ _ _ _ _ c.loop-place.invariant.1 c.loop-place-test.false
