-- The middle between a number and the next higher one, as a 54-bit number times a power of two, and its comparison with a setting's
-- number, both divided by what they share. Assumes nothing.
use mathlib.Core.Path.{◌≡◌, sym, ap, ap₂, ◌∙◌, subst, subst₂}
use mathlib.Core.Logic.{inl, inr}
use Prim.Native.Nat.{ℕ, suc, ◌+◌, ◌-◌, ◌*◌, ◌/◌, ◌%◌, ◌^◌, ◌≤◌, ◌<◌}
use native.Mathlib.Nat.{eq-or-lt_of_le, mul_assoc, mul_comm, mul-mul-mul_comm, add-mul, pow-suc, mod-lt, div-add-mod', mul-pos, mul-le-mul_right, mul-lt-mul_of_pos_right, pow-le-pow_right}
use native.Mathlib.Omega.{arith}
use lib.Dec.{lit<}
use lib.Pow.{pow_pos, pow-add}
use lib.Ieee.{binary64, hid, low}
use Rattle.thresholds.specs.Nearest.{Scale, raised, target, units, units_of_fields}
use Rattle.thresholds.proofs.Units.{of_fields_lem}
use Rattle.thresholds.proofs.Powers.{power_of_product, power_of_power}

normal : (e d : ℕ) → d < hid binary64 → units (suc e * hid binary64 + d) ≡ (hid binary64 + d) * 2 ^ e
unfolding units_of_fields
normal e d h = of_fields_lem (suc e) d h

-- one digit more, also where it carries into the exponent's field
next : (e d : ℕ) → d < hid binary64 → units (suc e * hid binary64 + d + 1) ≡ (hid binary64 + d + 1) * 2 ^ e
next e d h =
    elim (eq-or-lt_of_le h) [
      | inl carry ↦
          ap units (omega (arith, carry)) ∙ normal (suc e) 0 (lit< tt)
          ∙ ap (λ (x : ℕ). (hid binary64 + 0) * x) (pow-suc 2 e ∙ mul_comm (2 ^ e) 2)
          ∙ sym (mul_assoc (hid binary64 + 0) 2 (2 ^ e)) ∙ ap (λ (x : ℕ). x * 2 ^ e) (omega (arith, carry))
      | inr more ↦ ap units (omega arith) ∙ normal e (d + 1) (omega arith) ∙ ap (λ (x : ℕ). x * 2 ^ e) (omega arith)
    ]

abbrev pub middle : ℕ → ℕ
middle pattern = 2 * (hid binary64 + pattern % hid binary64) + 1

sum_of_fields : (e d : ℕ) → d < hid binary64
    → units (suc e * hid binary64 + d) + units (suc e * hid binary64 + d + 1) ≡ (2 * (hid binary64 + d) + 1) * 2 ^ e
sum_of_fields e d h =
    let A = hid binary64 + d in
    let P = 2 ^ e in
    let twice : (2 * A + 1) * P ≡ (A + (A + 1)) * P = ap (λ (x : ℕ). x * P) (omega arith) in
    ap₂ (λ (x y : ℕ). x + y) (normal e d h) (next e d h) ∙ sym (add-mul A (A + 1) P) ∙ sym twice

pub sum_is : (pattern : ℕ) → hid binary64 ≤ pattern → units pattern + units (pattern + 1) ≡ middle pattern * 2 ^ (pattern / hid binary64 - 1)
sum_is pattern h =
    let e = pattern / hid binary64 - 1 in
    let d = pattern % hid binary64 in
    let l : d < hid binary64 = mod-lt pattern (pow_pos 52) in
    let whole : suc e * hid binary64 + d ≡ pattern = omega (arith, div-add-mod' pattern (hid binary64)) in
    subst (λ (x : ℕ). units x + units (x + 1) ≡ (2 * (hid binary64 + d) + 1) * 2 ^ e) whole (sum_of_fields e d l)

-- ---- both sides, divided by 10 ^ (slope · n) · 2 ^ (e · root)

module _ (scale : Scale) (n tens e m : ℕ) where
  abbrev shared : ℕ
  shared = 10 ^ (scale.slope * n) * 2 ^ (e * scale.root)

  raised_is : tens + scale.slope * n ≡ scale.offset → raised scale (m * 2 ^ e) ≡ 10 ^ tens * m ^ scale.root * shared
  raised_is h =
      ap₂ (λ (x y : ℕ). x * y)
      (power_of_product m (2 ^ e) scale.root ∙ ap (λ (x : ℕ). m ^ scale.root * x) (power_of_power 2 e scale.root) ∙ mul_comm _ _)
      (ap (λ (x : ℕ). 10 ^ x) (sym h) ∙ pow-add 10 tens (scale.slope * n) ∙ mul_comm _ _)
      ∙ mul-mul-mul_comm (2 ^ (e * scale.root)) (m ^ scale.root) (10 ^ (scale.slope * n)) (10 ^ tens)
      ∙ mul_comm _ _
      ∙ ap₂ (λ (x y : ℕ). x * y) (mul_comm _ _) (mul_comm _ _)

  target_is : e ≤ low binary64 + 1 → target scale n ≡ 2 ^ ((low binary64 + 1 - e) * scale.root) * shared
  target_is h =
      let power = 10 ^ (scale.slope * n) in
      let rest = (low binary64 + 1 - e) * scale.root in
      let exponents : (low binary64 + 1) * scale.root ≡ rest + e * scale.root =
      ap (λ (x : ℕ). x * scale.root) (omega arith) ∙ add-mul (low binary64 + 1 - e) e scale.root in
      ap (λ (x : ℕ). power * x) (ap (λ (x : ℕ). 2 ^ x) exponents ∙ pow-add 2 rest (e * scale.root))
      ∙ sym (mul_assoc power (2 ^ rest) (2 ^ (e * scale.root)))
      ∙ ap (λ (x : ℕ). x * 2 ^ (e * scale.root)) (mul_comm power (2 ^ rest))
      ∙ mul_assoc (2 ^ rest) power (2 ^ (e * scale.root))

  shared_positive : 0 < shared
  shared_positive = mul-pos (pow-le-pow_right {n = 10} (lit< tt) {i = 0} {j = scale.slope * n} (omega arith)) (pow_pos (e * scale.root))

  pub reached : tens + scale.slope * n ≡ scale.offset → e ≤ low binary64 + 1
      → 2 ^ ((low binary64 + 1 - e) * scale.root) ≤ 10 ^ tens * m ^ scale.root → target scale n ≤ raised scale (m * 2 ^ e)
  reached h k l = subst₂ (λ (x y : ℕ). x ≤ y) (sym (target_is k)) (sym (raised_is h)) (mul-le-mul_right shared l)

  pub not_reached : tens + scale.slope * n ≡ scale.offset → e ≤ low binary64 + 1
      → 10 ^ tens * m ^ scale.root < 2 ^ ((low binary64 + 1 - e) * scale.root) → raised scale (m * 2 ^ e) < target scale n
  not_reached h k l = subst₂ (λ (x y : ℕ). x < y) (sym (raised_is h)) (sym (target_is k)) (mul-lt-mul_of_pos_right l shared_positive)
