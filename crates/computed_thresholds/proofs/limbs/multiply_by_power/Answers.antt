-- `limbs::multiply_by_power` meets its contract. Assumes nothing.
use mathlib.Core.Path.{subst}
use Prim.Native.Nat.{ℕ, ◌^◌}
use native.Mathlib.Omega.{arith}
use Rattle.computed_thresholds.specs.Limbs.{Multiplied}
use Rattle.computed_thresholds.proofs.Multiplying.{none, fits_more, more}
use Rattle.computed_thresholds.proofs.limbs.multiply_by_power.Goals as goal

pub loop-init : goal.loop-init
loop-init c = (none _ c.requires.0, omega arith)

pub multiply-count-requires : goal.multiply-count-requires
multiply-count-requires c =
    let p = c.requires in
    let m = c.loop.invariant.0 in
    (m.limbs, p.1, p.2, fits_more _ _ _ m p.1 (omega arith) p.3)

pub loop-preserved : goal.loop-preserved
loop-preserved c = (more _ _ c.loop.invariant.0 c.multiply-count.ensures, omega arith)

pub returns : goal.returns
returns c = subst (λ (k : ℕ). Multiplied c.args.limbs.now c.args.used (c.args.factor ^ k) c.loop.count c.loop.limbs) (omega (arith, c.loop.invariant.1)) c.loop.invariant.0
