-- A pattern whose middle with the next one reaches the setting's number is not below the threshold, and any other is. Assumes nothing.
use mathlib.Core.Path.{◌≡◌}
use mathlib.Core.Bool.{Bool, true, false, ◌&&◌}
use Prim.Native.Nat.{ℕ, ◌+◌, ◌≤◌, ◌<◌}
use native.Mathlib.Nat.{le_refl, lt_irrefl, lt_of_not-le, lt_of_lt_of_le, lt_of_le_of_lt, le_of_lt, le_trans, le_of_suc-le-suc}
use native.Mathlib.Omega.{arith}
use lib.Dec.{T, ltb, ltb→lt, leb, leb→le}
use lib.Ieee.Fits.{and_l, and_r}
use Rattle.thresholds.specs.Nearest.{Scale, Nearest, raised, target, units}
use Rattle.thresholds.proofs.Units.{units_mono}
use Rattle.thresholds.proofs.NearestNumber.{raised_mono, above_every_lower}
use Rattle.thresholds.proofs.TableRule.{every}
use Rattle.thresholds.specs.Thresholds.{half_hundredths, thresholds, threshold, first_pruning_setting, last_setting}
use Rattle.thresholds.proofs.NearestThresholds.{nearest, at_setting}
use Rattle.computed_thresholds.specs.Limbs.{lowest, highest}
use Rattle.computed_thresholds.specs.Middles.{Compared}

module _ (scale : Scale) {n near : ℕ} (pattern : ℕ) where
  not_below : Nearest scale n near → target scale n ≤ raised scale (units pattern + units (pattern + 1)) → near ≤ pattern
  not_below is_near h =
      le_of_suc-le-suc (lt_of_not-le (λ (l : pattern < near).
      lt_irrefl (target scale n)
      (lt_of_le_of_lt (le_trans h (raised_mono scale (le_refl (units pattern)) (units_mono (pattern + 1) near (omega arith))))
      (above_every_lower is_near l))))

  below : Nearest scale n near → raised scale (units pattern + units (pattern + 1)) < target scale n → pattern < near
  below is_near h =
      lt_of_not-le (λ (l : near ≤ pattern).
      lt_irrefl (target scale n)
      (lt_of_lt_of_le is_near.below_upper
      (le_trans (raised_mono scale (units_mono near pattern l) (units_mono (near + 1) (pattern + 1) (omega arith))) (le_of_lt h))))

module _ {n pattern : ℕ} (low : first_pruning_setting ≤ n) (high : n ≤ last_setting) where
  pub at_or_above : {r : Bool} → Compared n pattern r → r ≡ true → threshold n ≤ pattern
  at_or_above c e = not_below half_hundredths pattern (nearest n low high) (c.reached e)

  pub under : {r : Bool} → Compared n pattern r → r ≡ false → pattern < threshold n
  under c e = below half_hundredths pattern (nearest n low high) (c.not_reached e)

-- ---- where the search starts

between_test : ℕ → ℕ → Bool
between_test n bits = ltb lowest bits && leb bits highest

all_between : T (every between_test first_pruning_setting thresholds)
unfolding every between_test thresholds
all_between = tt

pub between : (n : ℕ) → first_pruning_setting ≤ n → n ≤ last_setting → (lowest < threshold n) × (threshold n ≤ highest)
unfolding between_test
between n low high =
    let t : T (ltb lowest (threshold n) && leb (threshold n) highest) = at_setting between_test all_between n low high in (
      ltb→lt lowest (threshold n) (and_l (ltb lowest (threshold n)) (leb (threshold n) highest) t),
      leb→le (threshold n) highest (and_r (ltb lowest (threshold n)) (leb (threshold n) highest) t),
    )
