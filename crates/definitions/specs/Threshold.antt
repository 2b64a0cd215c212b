-- A prune's threshold, handed in as bits or as a setting.
use Rattle.std.specs.Prelude.{ℕ, cond, leb}
use Rattle.definitions.specs.Limits.{infinity_bits}
use Rattle.definitions.specs.Refusals.{bad_threshold}

-- a threshold's bits; none, so that the root is answered untouched ("Such a prune has no threshold"); or the refusal of what was
-- handed in
pub data Threshold : Type 0 where
  bits : ℕ → Threshold
  untouched : Threshold
  refusing : ℕ → Threshold

-- 7: "threshold NaN or sign bit set"
abbrev pub given : ℕ → Threshold
given t = cond (leb t infinity_bits) (bits t) (refusing bad_threshold)
