-- The answer for each setting: none below the first that prunes, the nearest number up to the last, a refusal above it. Assumes nothing.
use mathlib.Core.Path.{◌≡◌, refl, subst}
use mathlib.Core.Bool.{Bool, true, false, cond}
use Prim.Native.Nat.{ℕ, ◌≤◌, ◌<◌}
use native.Mathlib.Omega.{arith}
use lib.Dec.{T, leb, ltb}
use lib.Ieee.{binary64, of_bits, le}
use borrow.Author.Tests.{le-leb, lt-leb, le-ltb, lt-ltb, leb-true, ltb-false}
use Rattle.definitions.specs.Settings.{first_pruning_setting, last_setting, thresholds, threshold, setting}
use Rattle.definitions.specs.Refusals.{bad_setting}
use Rattle.definitions.specs.Threshold.{bits, untouched, refusing}
use Rattle.definitions.specs.Patterns.{one64}
use Rattle.thresholds.specs.Nearest.{Nearest}
use Rattle.thresholds.specs.Thresholds.{half_hundredths}
use Rattle.thresholds.proofs.NearestThresholds.{nearest, at_setting}
use Rattle.thresholds.proofs.TableRule.{every}

pub below_first : (n : ℕ) → n < first_pruning_setting → setting n ≡ untouched
unfolding setting
below_first n h = simp (lt-ltb _ _ h)

pub listed : (n : ℕ) → first_pruning_setting ≤ n → n ≤ last_setting → setting n ≡ bits (threshold n)
unfolding setting
listed n low high = simp (le-ltb _ _ low, le-leb _ _ high)

pub above_last : (n : ℕ) → last_setting < n → setting n ≡ refusing bad_setting
unfolding setting
above_last n h = simp (le-ltb n first_pruning_setting (omega arith), lt-leb _ _ h)

-- a threshold that is answered is the nearest number
pub answer_nearest : (n t : ℕ) → setting n ≡ bits t → Nearest half_hundredths n t
unfolding setting
answer_nearest n t e = by_tests (ltb n first_pruning_setting) (leb n last_setting) refl refl e
  where
    by_tests : (low high : Bool) → ltb n first_pruning_setting ≡ low → leb n last_setting ≡ high
        → cond low untouched (cond high (bits (threshold n)) (refusing bad_setting)) ≡ bits t → Nearest half_hundredths n t
    by_tests false true low high e =
        let same : threshold n ≡ t = cc in
        subst (λ (x : ℕ). Nearest half_hundredths n x) same (nearest n (ltb-false _ _ low) (leb-true _ _ high))
    by_tests false false low high e = let z : ◌≡◌ {A = ℕ} 0 1 = cc in absurd (omega arith)
    by_tests true high low h e = let z : ◌≡◌ {A = ℕ} 0 1 = cc in absurd (omega arith)

-- ---- a threshold from 0 to 1, as demand 3 has it

at_most_one_test : ℕ → ℕ → Bool
at_most_one_test n pattern = le (of_bits binary64 pattern) one64

all_at_most_one : T (every at_most_one_test first_pruning_setting thresholds)
unfolding every at_most_one_test le of_bits thresholds
all_at_most_one = tt

pub at_most_one : (n : ℕ) → first_pruning_setting ≤ n → n ≤ last_setting → T (le (of_bits binary64 (threshold n)) one64)
unfolding at_most_one_test
at_most_one n low high = at_setting at_most_one_test all_at_most_one n low high
