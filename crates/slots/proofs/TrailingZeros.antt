-- Trailing zeros by the lowest digit.
use Prim.Native.Nat.{ℕ, suc, ◌+◌, ◌*◌, ◌/◌, ◌%◌}
use mathlib.Core.Path.{◌≡◌, ap, ap₂}
use native.Mathlib.Omega.{arith}
use lib.Count.{count_trailing_zeros, under}

pub zeros_over_one : (k d x : ℕ) → d ≡ 1 → count_trailing_zeros (suc k) (d + 2 * x) ≡ 0
unfolding count_trailing_zeros
zeros_over_one k d x e = let odd : (d + 2 * x) % 2 ≡ 1 = omega arith in ap (λ (y : ℕ). under y (count_trailing_zeros k ((d + 2 * x) / 2))) odd

pub zeros_over_zero : (k d x : ℕ) → d ≡ 0 → count_trailing_zeros (suc k) (d + 2 * x) ≡ suc (count_trailing_zeros k x)
unfolding count_trailing_zeros
zeros_over_zero k d x e =
    let even : (d + 2 * x) % 2 ≡ 0 = omega arith in
    let half : (d + 2 * x) / 2 ≡ x = omega arith in
    ap₂ (λ (y z : ℕ). under y (count_trailing_zeros k z)) even half
