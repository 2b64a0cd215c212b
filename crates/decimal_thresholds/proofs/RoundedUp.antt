-- Each threshold is above 2^-13 and rounded up to the next billionth: two tests that are computed over the table.
use Prim.Native.Nat.{ℕ, ◌+◌, ◌-◌, ◌*◌, ◌/◌, ◌^◌, ◌≤◌, ◌<◌}
use mathlib.Core.Bool.{Bool, ◌&&◌}
use mathlib.Core.Path.{sym, ◌∙◌, subst₂}
use native.Mathlib.Nat.{div-le_self, mul_assoc, mul_comm, mul-lt-mul_of_pos_right, mul-le-mul}
use native.Mathlib.Omega.{arith}
use lib.Dec.{T, leb, ltb, leb→le, ltb→lt}
use lib.Ieee.{binary64, low}
use lib.Ieee.Fits.{and_l, and_r}
use Rattle.thresholds.specs.Nearest.{units}
use Rattle.thresholds.specs.Thresholds.{first_pruning_setting, last_setting, thresholds, threshold}
use Rattle.thresholds.proofs.TableRule.{every}
use Rattle.thresholds.proofs.NearestThresholds.{at_setting}
use Rattle.decimal_thresholds.specs.Billionths.{billion, leading_digit, billionths, Between, RoundedUp, ThresholdsRoundedUp, most_terms, TogetherRoundedUp}

between_test : ℕ → ℕ → Bool
between_test n pattern = leb 1010 (pattern / leading_digit) && ltb (pattern / leading_digit) 1023

all_between : T (every between_test first_pruning_setting thresholds)
unfolding every between_test thresholds
all_between = tt

pub between : (n : ℕ) → first_pruning_setting ≤ n → n ≤ last_setting → Between (threshold n)
unfolding between_test
between n low high =
    let t = at_setting between_test all_between n low high in
    let field = threshold n / leading_digit in
    record { least = leb→le 1010 field (and_l (leb 1010 field) (ltb field 1023) t); most = ltb→lt field 1023 (and_r (leb 1010 field) (ltb field 1023) t) }

rounded_test : ℕ → ℕ → Bool
rounded_test n pattern =
    ltb (units pattern * billion) (billionths pattern * 2 ^ low binary64) && leb ((billionths pattern - 1) * 2 ^ low binary64) (units pattern * billion)

all_rounded : T (every rounded_test first_pruning_setting thresholds)
unfolding every rounded_test units billionths thresholds
all_rounded = tt

pub rounded_up : ThresholdsRoundedUp
unfolding rounded_test
rounded_up n first last =
    let t = at_setting rounded_test all_rounded n first last in
    let u = units (threshold n) * billion in
    let r = billionths (threshold n) in
    record {
      above = ltb→lt u (r * 2 ^ low binary64) (and_l (ltb u (r * 2 ^ low binary64)) (leb ((r - 1) * 2 ^ low binary64) u) t);
      least = leb→le ((r - 1) * 2 ^ low binary64) u (and_r (ltb u (r * 2 ^ low binary64)) (leb ((r - 1) * 2 ^ low binary64) u) t);
    }

-- a shifted number has a place for one more
pub one_more_fits : (n k : ℕ) → n < 18446744073709551615 → n / 2 ^ k + 1 < 18446744073709551616
one_more_fits n k h = let z = div-le_self n (2 ^ k) in omega arith

-- ---- several thresholds together

pub together_rounded_up : TogetherRoundedUp
together_rounded_up n count first last h =
    let u = units (threshold n) in
    let r = billionths (threshold n) in
    subst₂ (λ (x y : ℕ). x < y) (mul_comm (u * billion) count ∙ sym (mul_assoc count u billion)) (mul_comm (r * 2 ^ low binary64) count ∙ sym (mul_assoc count r (2 ^ low binary64)))
    (mul-lt-mul_of_pos_right (rounded_up n first last).above h)

below_one_test : ℕ → ℕ → Bool
below_one_test n pattern = leb (billionths pattern) billion

all_below_one : T (every below_one_test first_pruning_setting thresholds)
unfolding every below_one_test billionths thresholds
all_below_one = tt

-- the product has place in 64 bits
pub together_fits : (n count : ℕ) → first_pruning_setting ≤ n → n ≤ last_setting → count ≤ most_terms → count * billionths (threshold n) < 18446744073709551616
unfolding below_one_test
together_fits n count first last h =
    let b = leb→le (billionths (threshold n)) billion (at_setting below_one_test all_below_one n first last) in
    let p = mul-le-mul h b in
    omega arith
