-- The middle between a number and the next higher one, compared with a setting's number. Definitions only.
use Rattle.std.specs.Prelude.{◌≡◌, Bool, true, false, ℕ, ◌+◌, ◌≤◌, ◌<◌}
use Rattle.thresholds.specs.Nearest.{raised, target, units}
use Rattle.thresholds.specs.Thresholds.{half_hundredths}

pub record Compared (n pattern : ℕ) (r : Bool) : Type 0 where
  pub reached : r ≡ true → target half_hundredths n ≤ raised half_hundredths (units pattern + units (pattern + 1))
  pub not_reached : r ≡ false → raised half_hundredths (units pattern + units (pattern + 1)) < target half_hundredths n
