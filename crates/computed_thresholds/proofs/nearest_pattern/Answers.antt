-- `nearest_pattern` meets its contract. The invariant: the threshold is above `below`, and at most `reached`. Assumes nothing.
use mathlib.Core.Path.{◌≡◌, sym, subst}
use Prim.Native.Nat.{ℕ}
use native.Mathlib.Omega.{arith}
use Rattle.thresholds.specs.Nearest.{Nearest}
use Rattle.thresholds.specs.Thresholds.{half_hundredths, threshold}
use Rattle.thresholds.proofs.NearestThresholds.{nearest}
use Rattle.computed_thresholds.proofs.Bisecting.{at_or_above, under, between}
use Rattle.computed_thresholds.proofs.nearest_pattern.Goals as goal

pub loop-reached-init : goal.loop-reached-init
loop-reached-init c = let b = between c.args.n c.requires.0 c.requires.1 in (b.0, b.1, omega arith, omega arith)

pub loop-reached-preserved-then-middle_reaches : goal.loop-reached-preserved-then-middle_reaches
loop-reached-preserved-then-middle_reaches c =
    let i = c.loop-reached.invariant in
    let m = c.middle_reaches.ensures in
    (i.0, at_or_above c.requires.0 c.requires.1 m c.if-middle_reaches.true, i.2, omega arith)

pub loop-reached-preserved : goal.loop-reached-preserved
loop-reached-preserved c =
    let i = c.loop-reached.invariant in
    let m = c.middle_reaches.ensures in
    (under c.requires.0 c.requires.1 m c.if-middle_reaches.false, i.1, omega arith, i.3)

pub returns : goal.returns
returns c =
    let e : c.loop-reached.reached ≡ threshold c.args.n = let i = c.loop-reached.invariant in omega arith in
    (subst (λ (x : ℕ). Nearest half_hundredths c.args.n x) (sym e) (nearest c.args.n c.requires.0 c.requires.1), e)
