-- The threshold of each setting is the nearest number and the only one, and it is finite. Assumes nothing.
use mathlib.Core.Bool.{Bool}
use Prim.Native.Nat.{ℕ, ◌*◌, ◌≤◌, ◌<◌}
use native.Mathlib.Omega.{arith}
use lib.Dec.{T, ltb, ltb→lt}
use lib.Ieee.{binary64, hid, ones}
use Rattle.thresholds.specs.Nearest.{units}
use Rattle.thresholds.specs.Thresholds.{ThresholdsNearest, ThresholdsUnique, half_hundredths, thresholds, threshold, first_pruning_setting, last_setting}
use Rattle.thresholds.proofs.NearestTest.{nearest_test, nearest_in_table}
use Rattle.thresholds.proofs.NearestNumber as Number
use Rattle.thresholds.proofs.TableRule.{every, at_number}

-- Thresholds are at least 2 ^ -13, so divided by 2 ^ 1009 they are normal numbers still.
abbrev pub divided : ℕ
divided = 1009

all_nearest : T (every (nearest_test half_hundredths divided) first_pruning_setting thresholds)
unfolding every nearest_test units thresholds
all_nearest = tt

pub nearest : ThresholdsNearest
unfolding thresholds threshold
nearest n low high = nearest_in_table half_hundredths divided first_pruning_setting thresholds (omega arith) all_nearest n low (omega arith)

pub unique : ThresholdsUnique
unique n pattern low high near = Number.unique near (nearest n low high)

-- a test that passes over the whole table passes at each setting from the first that prunes to the last
pub at_setting : (test : ℕ → ℕ → Bool) → T (every test first_pruning_setting thresholds) → (n : ℕ) → first_pruning_setting ≤ n → n ≤ last_setting → T (test n (threshold n))
unfolding thresholds threshold
at_setting test passed n low high = at_number test first_pruning_setting thresholds passed n low (omega arith)

finite_test : ℕ → ℕ → Bool
finite_test n bits = ltb bits (ones binary64 * hid binary64)

all_finite : T (every finite_test first_pruning_setting thresholds)
unfolding every finite_test thresholds
all_finite = tt

-- The pattern is below infinity's: the sign bit is clear, and it is no NaN.
pub finite : (n : ℕ) → first_pruning_setting ≤ n → n ≤ last_setting → threshold n < ones binary64 * hid binary64
unfolding finite_test
finite n low high = ltb→lt (threshold n) (ones binary64 * hid binary64) (at_setting finite_test all_finite n low high)
