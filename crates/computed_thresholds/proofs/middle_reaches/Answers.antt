-- `middle_reaches` meets its contract: the product is made, and its count of limbs compared. Assumes nothing.
use Prim.Native.Nat.{◌-◌, ◌*◌}
use native.Mathlib.Omega.{arith}
use lib.Dec.{lit<, lit≤}
use Rattle.computed_thresholds.proofs.Comparing.{one_limbs, sixteens_fit, powers_fit, all_fit, all_is, compared}
use Rattle.computed_thresholds.proofs.middle_reaches.Goals as goal

pub multiply_by_power-sixteens-requires : goal.multiply_by_power-sixteens-requires
multiply_by_power-sixteens-requires c = (one_limbs, lit< tt, lit≤ tt, sixteens_fit (800 - 3 * c.args.n) (omega (arith, c.requires)))

pub multiply_by_power-powers-requires : goal.multiply_by_power-powers-requires
multiply_by_power-powers-requires c =
    let m = c.multiply_by_power-sixteens.ensures in
    (m.limbs, lit< tt, lit≤ tt, powers_fit (800 - 3 * c.args.n) m (omega (arith, c.requires)))

pub multiply_by_power-used-requires : goal.multiply_by_power-used-requires
multiply_by_power-used-requires c =
    let m = c.multiply_by_power-sixteens.ensures in
    let m' = c.multiply_by_power-powers.ensures in
    (m'.limbs, omega arith, omega arith, all_fit (800 - 3 * c.args.n) m m' _ (omega (arith, c.requires)) (omega arith))

pub returns : goal.returns
returns c =
    let m = c.multiply_by_power-sixteens.ensures in
    let m' = c.multiply_by_power-powers.ensures in
    let m'' = c.multiply_by_power-used.ensures in
    compared c.args.n c.args.pattern c.requires.prunes c.requires.in_range m''.limbs (all_is (800 - 3 * c.args.n) m m' _ m'')
