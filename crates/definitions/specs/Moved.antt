-- How far a prune may have moved a formula (00, "They read the dropped count as how far the formula may have moved, and trim the feed by
-- it").
use Rattle.std.specs.Prelude.{ℕ, ◌+◌, ◌*◌, ◌^◌, ◌<◌, ◌≤◌, ◌≡◌, T, Float}
use Rattle.std.specs.Float.{nan, inf, fin}
use Rattle.std.specs.Float.Ieee.{le, up}
use Rattle.definitions.specs.Patterns.{one64}
use Rattle.definitions.specs.Formula.{Tree}
use Rattle.definitions.specs.Dyadic.{Fraction, fraction, opposite_fraction, Dyadic, dyadic, plus}
use Rattle.definitions.specs.Value.{fraction_bits, signed, Reading, value_of}
use Rattle.definitions.specs.Promise.{Balanced}

-- the order of the numbers that fractions are: (positive - negative) / 2 ^ bits
abbrev pub AtMost : Fraction → Fraction → Type 0
AtMost a b = a.positive * 2 ^ b.bits + b.negative * 2 ^ a.bits ≤ b.positive * 2 ^ a.bits + a.negative * 2 ^ b.bits

abbrev pub Below : Fraction → Fraction → Type 0
Below a b = a.positive * 2 ^ b.bits + b.negative * 2 ^ a.bits < b.positive * 2 ^ a.bits + a.negative * 2 ^ b.bits

-- `count` times the threshold; a threshold from 0 to 1 is a finite number
abbrev pub times_threshold : ℕ → Float → Fraction
times_threshold count nan = fraction 0 0 0
times_threshold count (inf s) = fraction 0 0 0
times_threshold count (fin s m e) = signed s (count * (m * up e)) (fraction_bits e)

-- The old value is the new one plus a number of magnitude at most `count` times the threshold, and below that if anything was dropped.
pub record Moved (old new : Dyadic) (t : Float) (count : ℕ) : Type 0 where
  pub difference : Fraction
  pub is : old ≡ plus new (dyadic difference)
  pub upper : AtMost difference (times_threshold count t)
  pub lower : AtMost (opposite_fraction difference) (times_threshold count t)
  pub strict : 0 < count → Below difference (times_threshold count t) × Below (opposite_fraction difference) (times_threshold count t)

-- what demand 3 gives of a simplify and a prune, read so; proved in proofs/Moved
abbrev pub DroppedCountBounds : Type 0
DroppedCountBounds =
    (old s u : Tree) (t : Float) (kept_count dropped_count : ℕ) → T (le t one64) → Balanced old s u t kept_count dropped_count
    → (r : Reading) → Moved (value_of r old) (value_of r u) t dropped_count
