-- Old setting n and new setting 2n stand for one number, so that both tables agree there. Assumes nothing.
use mathlib.Core.Path.{◌≡◌, sym, ap, ap₂, ◌∙◌, subst₂}
use Prim.Native.Nat.{ℕ, ◌+◌, ◌*◌, ◌^◌, ◌≤◌, ◌<◌}
use native.Mathlib.Nat.{mul-add, mul-mul-mul_comm, mul-le-mul_left, mul-lt-mul_of_pos_right, le_of_lt, lt_of_le_of_lt}
use native.Mathlib.Omega.{arith}
use lib.Dec.{T}
use lib.Pow.{pow-add}
use lib.Ieee.{binary64, low}
use Rattle.thresholds.specs.Nearest.{Scale, Nearest, raised, target, units}
use Rattle.thresholds.specs.Hundredths.{OldThresholdsNearest, OldIsDoubled, TablesAgree, hundredths, old_thresholds, old_threshold, first_old_setting}
use Rattle.thresholds.proofs.NearestTest.{nearest_test, nearest_in_table}
use Rattle.thresholds.proofs.TableRule.{every}
use Rattle.thresholds.proofs.NearestThresholds.{divided, unique}

all_nearest : T (every (nearest_test hundredths divided) first_old_setting old_thresholds)
unfolding every nearest_test units old_thresholds
all_nearest = tt

pub old_nearest : OldThresholdsNearest
unfolding old_thresholds old_threshold
old_nearest n low high = nearest_in_table hundredths divided first_old_setting old_thresholds (omega arith) all_nearest n low (omega arith)

-- a scale whose settings go by halves
abbrev halved : Scale → Scale
halved scale = record { slope = scale.slope; offset = scale.offset + scale.offset; root = scale.root + scale.root }

square_less : (x y : ℕ) → x < y → x * x < y * y
square_less x y h = lt_of_le_of_lt (mul-le-mul_left x (le_of_lt h)) (mul-lt-mul_of_pos_right h (omega arith))

module _ (scale : Scale) where
  raised_square : (sum : ℕ) → raised (halved scale) sum ≡ raised scale sum * raised scale sum
  raised_square sum =
      ap₂ (λ (x y : ℕ). x * y) (pow-add sum scale.root scale.root) (pow-add 10 scale.offset scale.offset)
      ∙ mul-mul-mul_comm (sum ^ scale.root) (sum ^ scale.root) (10 ^ scale.offset) (10 ^ scale.offset)

  target_square : (n : ℕ) → target (halved scale) (2 * n) ≡ target scale n * target scale n
  target_square n =
      let tens = scale.slope * n in
      let twos = (low binary64 + 1) * scale.root in
      ap₂ (λ (x y : ℕ). x * y)
      (ap (λ (x : ℕ). 10 ^ x) (ap (λ (x : ℕ). scale.slope * x) (omega arith) ∙ mul-add scale.slope n n) ∙ pow-add 10 tens tens)
      (ap (λ (x : ℕ). 2 ^ x) (mul-add (low binary64 + 1) scale.root scale.root) ∙ pow-add 2 twos twos)
      ∙ mul-mul-mul_comm (10 ^ tens) (10 ^ tens) (2 ^ twos) (2 ^ twos)

  nearest_halved : (n pattern : ℕ) → Nearest scale n pattern → Nearest (halved scale) (2 * n) pattern
  nearest_halved n pattern near = record {
    above_lower = subst₂ (λ (x y : ℕ). x < y) (sym (raised_square _)) (sym (target_square n)) (square_less _ _ near.above_lower);
    below_upper = subst₂ (λ (x y : ℕ). x < y) (sym (target_square n)) (sym (raised_square _)) (square_less _ _ near.below_upper);
  }

pub doubled : OldIsDoubled
doubled n pattern near = nearest_halved hundredths n pattern near

pub agree : TablesAgree
agree n low high = unique (2 * n) (old_threshold n) (omega arith) (omega arith) (doubled n (old_threshold n) (old_nearest n low high))
