-- A number by its bit pattern, in billionths, rounded up.
use Rattle.std.specs.Prelude.{ℕ, ◌+◌, ◌-◌, ◌*◌, ◌/◌, ◌%◌, ◌^◌, ◌≤◌, ◌<◌}
use Rattle.std.specs.Float.{binary64}
use Rattle.std.specs.Float.Ieee.{low}
use Rattle.thresholds.specs.Nearest.{units}
use Rattle.thresholds.specs.Thresholds.{first_pruning_setting, last_setting, threshold}

abbrev pub billion : ℕ
billion = 1000000000

-- the leading digit, 2^52; the digits are multiplied by halves, 2^26 each
abbrev pub leading_digit : ℕ
leading_digit = 4503599627370496

abbrev pub half : ℕ
half = 67108864

abbrev pub significand : ℕ → ℕ
significand pattern = leading_digit + pattern % leading_digit

-- the billionths, cut off at the next lower whole number, and one more
unfoldable pub billionths : ℕ → ℕ
billionths pattern =
    (significand pattern / half * billion + significand pattern % half * billion / half) / 2 ^ (1049 - pattern / leading_digit) + 1

-- numbers from 2^-13 to 1, by the field of their exponent
pub record Between (pattern : ℕ) : Type 0 where
  pub least : 1010 ≤ pattern / leading_digit
  pub most : pattern / leading_digit < 1023

-- r billionths are above the number, and r - 1 are not
pub record RoundedUp (pattern r : ℕ) : Type 0 where
  pub above : units pattern * billion < r * 2 ^ low binary64
  pub least : (r - 1) * 2 ^ low binary64 ≤ units pattern * billion

-- so it is for every setting that prunes; proved in proofs/RoundedUp
abbrev pub ThresholdsRoundedUp : Type 0
ThresholdsRoundedUp = (n : ℕ) → first_pruning_setting ≤ n → n ≤ last_setting → RoundedUp (threshold n) (billionths (threshold n))

-- ---- several thresholds together

-- the most terms that a sum may have for a prune
abbrev pub most_terms : ℕ
most_terms = 4096

-- so many thresholds, each in billionths, are above that many times the threshold; proved in proofs/RoundedUp
abbrev pub TogetherRoundedUp : Type 0
TogetherRoundedUp = (n count : ℕ) → first_pruning_setting ≤ n → n ≤ last_setting → 0 < count
    → count * units (threshold n) * billion < count * billionths (threshold n) * 2 ^ low binary64
