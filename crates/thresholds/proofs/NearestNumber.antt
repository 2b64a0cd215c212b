-- A nearest number is nearer than every other number, on any scale of settings. So there is one at most. Assumes nothing.
use mathlib.Core.Path.{◌≡◌}
use Prim.Native.Nat.{ℕ, ◌+◌, ◌-◌, ◌^◌, ◌≤◌, ◌<◌}
use native.Mathlib.Nat.{le_refl, le_antisymm, le_of_lt, le_of_suc-le-suc, lt_of_lt_of_le, lt_of_le_of_lt, lt_irrefl, lt_of_not-le, mul-le-mul_right, pow-le-pow_left, add-le-add}
use native.Mathlib.Omega.{arith}
use Rattle.thresholds.specs.Nearest.{Scale, Nearest, raised, target, units}
use Rattle.thresholds.proofs.Units.{units_mono}

pub raised_mono : (scale : Scale) {a b c d : ℕ} → a ≤ c → b ≤ d → raised scale (a + b) ≤ raised scale (c + d)
raised_mono scale h k = mul-le-mul_right (10 ^ scale.offset) (pow-le-pow_left (add-le-add h k) scale.root)

module _ {scale : Scale} {n : ℕ} where
  -- The number of setting n lies above the middle between the nearest number and any lower one,
  pub above_every_lower : {bits other : ℕ} → Nearest scale n bits → other < bits → raised scale (units other + units bits) < target scale n
  above_every_lower {bits} {other} near below =
      lt_of_le_of_lt (raised_mono scale (units_mono other (bits - 1) (omega arith)) (le_refl (units bits))) near.above_lower

  -- and below the middle between it and any higher one.
  pub below_every_higher : {bits other : ℕ} → Nearest scale n bits → bits < other → target scale n < raised scale (units bits + units other)
  below_every_higher {bits} {other} near above =
      lt_of_lt_of_le near.below_upper (raised_mono scale (le_refl (units bits)) (units_mono (bits + 1) other (omega arith)))

  not_both : {a b : ℕ} → Nearest scale n a → Nearest scale n b → a < b → ⊥
  not_both near_a near_b less =
      lt_irrefl (target scale n) (lt_of_lt_of_le (below_every_higher near_a less) (le_of_lt (above_every_lower near_b less)))

  at_most : {a b : ℕ} → Nearest scale n a → Nearest scale n b → a ≤ b
  at_most near_a near_b = le_of_suc-le-suc (lt_of_not-le (not_both near_b near_a))

  pub unique : {a b : ℕ} → Nearest scale n a → Nearest scale n b → a ≡ b
  unique near_a near_b = le_antisymm (at_most near_a near_b) (at_most near_b near_a)
