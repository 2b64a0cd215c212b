-- The count of limbs says where a number stands among the powers of 1024. Assumes nothing.
use mathlib.Core.Path.{◌≡◌, ◌∙◌}
use mathlib.Core.List.{List}
use Prim.Native.Nat.{ℕ, zero, suc, ◌+◌, ◌*◌, ◌^◌, ◌≤◌, ◌<◌}
use native.Mathlib.Nat.{mul-le-mul_right, mul-le-mul, pow-suc, mul_comm, pow-le-pow_right, pow-le-pow_left, lt_of_lt_of_le, lt_of_le_of_lt}
use native.Mathlib.Omega.{arith}
use lib.Dec.{lit<, ltb→lt}
use lib.ListN.{get_or}
use Rattle.computed_thresholds.specs.Limbs.{number, fitting, Limbs}
use Rattle.computed_thresholds.proofs.LimbLaws.{power_more}

below_power : (xs : List ℕ) (used : ℕ) → ((k : ℕ) → k < used → get_or xs k 0 < 1024) → number xs used < 1024 ^ used
unfolding number
below_power xs zero h = lit< tt
below_power xs (suc used) h =
    let lower : number xs used < 1024 ^ used = below_power xs used (λ k l. h k (omega arith)) in
    let limb : get_or xs used 0 < 1024 = h used (omega arith) in
    let top : get_or xs used 0 * 1024 ^ used ≤ 1023 * 1024 ^ used = mul-le-mul_right (1024 ^ used) (omega arith) in
    let more : 1024 ^ suc used ≡ 1024 * 1024 ^ used = pow-suc 1024 used ∙ mul_comm (1024 ^ used) 1024 in
    omega arith

pub more_limbs : {xs : List ℕ} {used : ℕ} (count : ℕ) → Limbs xs used → count < used → 1024 ^ count ≤ number xs used
more_limbs {xs} {used} count limbs h =
    let power : 1024 ^ (count + 1) ≤ 1024 ^ used = pow-le-pow_right {n = 1024} (lit< tt) {i = count + 1} {j = used} (omega arith) in
    omega (arith, limbs.long, power_more count, power)

pub no_more_limbs : {xs : List ℕ} {used : ℕ} (count : ℕ) → Limbs xs used → used ≤ count → number xs used < 1024 ^ count
no_more_limbs {xs} {used} count limbs h =
    lt_of_lt_of_le (below_power xs used limbs.small.2) (pow-le-pow_right {n = 1024} (lit< tt) {i = used} {j = count} h)

-- The product fits: 10 ^ 740 · (2 ^ 54) ^ 200 is below 2 ^ 13320.
pub fits : (tens m : ℕ) → tens ≤ 740 → m ≤ 2 ^ 54 → 10 ^ tens * m ^ 200 < fitting
unfolding fitting
fits tens m h k =
    lt_of_le_of_lt
    (mul-le-mul (pow-le-pow_right {n = 10} (lit< tt) {i = tens} {j = 740} h) (pow-le-pow_left k 200))
    (ltb→lt (10 ^ 740 * (2 ^ 54) ^ 200) (1024 ^ 1332) tt)
