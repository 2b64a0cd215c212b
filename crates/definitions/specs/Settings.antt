-- Prune settings: 0 to 19 prune nothing, and one above 200 is refused with 8. What the thresholds of the
-- others are, and that they are the nearest numbers, stands in the crate thresholds.
use Rattle.std.specs.Prelude.{ℕ, cond, leb, ltb}
use Rattle.definitions.specs.Refusals.{bad_setting}
use Rattle.definitions.specs.Threshold.{Threshold, bits, untouched, refusing}
pub use Rattle.thresholds.specs.Thresholds.{first_pruning_setting, last_setting}
unfoldable pub use Rattle.thresholds.specs.Thresholds.{thresholds, threshold}

-- the threshold of a setting
unfoldable pub setting : ℕ → Threshold
unfolding threshold
setting n = cond (ltb n first_pruning_setting) untouched (cond (leb n last_setting) (bits (threshold n)) (refusing bad_setting))
