-- What `middle_reaches` computes, and what it says of the middle. Assumes nothing.
use mathlib.Core.Path.{◌≡◌, refl, sym, ap, ◌∙◌, subst}
use mathlib.Core.List.{List}
use Prim.Native.Nat.{ℕ, ◌+◌, ◌-◌, ◌*◌, ◌/◌, ◌%◌, ◌^◌, ◌≤◌, ◌<◌}
use native.Mathlib.Nat.{mul-one, one-mul, lt_of_le_of_lt, le_of_eq, le_trans, pow-le-pow_right}
use native.Mathlib.Omega.{arith}
use lib.Dec.{lit<, lit≤, ltb}
use lib.ListN.{get_or, set, replicate}
use lib.Ieee.{binary64, hid, low}
use borrow.Author.Tests.{ltb-true, ltb-false}
use Rattle.thresholds.specs.Nearest.{raised, target, units}
use Rattle.thresholds.specs.Thresholds.{half_hundredths, first_pruning_setting, last_setting}
use Rattle.computed_thresholds.specs.Limbs.{number, fitting, Limbs, Multiplied, most_limbs, lowest, highest}
use Rattle.computed_thresholds.specs.Middles.{Compared}
use Rattle.thresholds.proofs.Powers.{power_of_power, power_by_parts}
use Rattle.computed_thresholds.proofs.Bounds.{more_limbs, no_more_limbs, fits}
use Rattle.computed_thresholds.proofs.Middles.{middle, sum_is, reached, not_reached}

-- ---- the product

abbrev pub one : List ℕ
one = set (replicate most_limbs 0) 0 1

one_is : number one 1 ≡ 1
unfolding number
one_is = refl

pub one_limbs : Limbs one 1
one_limbs = record {
  small = (refl, lit≤ tt, λ k h. let e : 0 ≡ k = omega arith in subst (λ (j : ℕ). get_or one j 0 < 1024) e (lit< tt));
  long = subst (λ (x : ℕ). 1024 ^ 1 ≤ 1024 * x) (sym one_is) (lit≤ tt);
}

module _ (tens : ℕ) where
  tens_fit : tens ≤ 740 → 10 ^ tens < fitting
  tens_fit h = subst (λ (x : ℕ). x < fitting) (mul-one (10 ^ tens)) (fits tens 1 h (lit≤ tt))

  pub sixteens_fit : tens ≤ 740 → number one 1 * (10 ^ 16) ^ (tens / 16) < fitting
  sixteens_fit h =
      lt_of_le_of_lt
      (le_trans (le_of_eq (ap (λ (x : ℕ). x * (10 ^ 16) ^ (tens / 16)) one_is ∙ one-mul _ ∙ power_of_power 10 16 (tens / 16)))
      (pow-le-pow_right {n = 10} (lit< tt) {i = 16 * (tens / 16)} {j = tens} (omega arith)))
      (tens_fit h)

  module _ {count : ℕ} {xs : List ℕ} (m : Multiplied one 1 ((10 ^ 16) ^ (tens / 16)) count xs) where
    tens_are : number xs count * 10 ^ (tens % 16) ≡ 10 ^ tens
    tens_are =
        ap (λ (x : ℕ). x * 10 ^ (tens % 16)) (m.value ∙ ap (λ (x : ℕ). x * (10 ^ 16) ^ (tens / 16)) one_is ∙ one-mul _)
        ∙ power_by_parts 10 16 tens

    pub powers_fit : tens ≤ 740 → number xs count * 10 ^ (tens % 16) < fitting
    powers_fit h = subst (λ (x : ℕ). x < fitting) (sym tens_are) (tens_fit h)

    module _ {count' : ℕ} {xs' : List ℕ} (m' : Multiplied xs count (10 ^ (tens % 16)) count' xs') where
      pub all_fit : (factor : ℕ) → tens ≤ 740 → factor ≤ 2 ^ 54 → number xs' count' * factor ^ 200 < fitting
      all_fit factor h k = subst (λ (x : ℕ). x * factor ^ 200 < fitting) (sym (m'.value ∙ tens_are)) (fits tens factor h k)

      pub all_is : (factor : ℕ) {count'' : ℕ} {xs'' : List ℕ} → Multiplied xs' count' (factor ^ 200) count'' xs''
          → number xs'' count'' ≡ 10 ^ tens * factor ^ 200
      all_is factor m'' = m''.value ∙ ap (λ (x : ℕ). x * factor ^ 200) (m'.value ∙ tens_are)

-- ---- the comparison

module _ (n pattern : ℕ) (setting : (first_pruning_setting ≤ n) × (n ≤ last_setting)) (bounds : (lowest ≤ pattern) × (pattern < highest)) where
  abbrev exponent : ℕ
  exponent = pattern / hid binary64 - 1

  abbrev limbs_of_target : ℕ
  limbs_of_target = 20 * (1076 - pattern / hid binary64)

  limbs_are : 1024 ^ limbs_of_target ≡ 2 ^ ((low binary64 + 1 - exponent) * 200)
  limbs_are =
      power_of_power 2 10 limbs_of_target
      ∙ ap (λ (x : ℕ). 2 ^ x) (let l = bounds.0 in let h = bounds.1 in omega arith)

  sum : units pattern + units (pattern + 1) ≡ middle pattern * 2 ^ exponent
  sum = sum_is pattern (let l = bounds.0 in omega arith)

  exponents : 800 - 3 * n + 3 * n ≡ 800
  exponents = let h = setting.1 in omega arith

  in_range : exponent ≤ low binary64 + 1
  in_range = let h = bounds.1 in omega arith

  pub compared : {used : ℕ} {xs : List ℕ} → Limbs xs used → number xs used ≡ 10 ^ (800 - 3 * n) * middle pattern ^ 200
      → Compared n pattern (ltb limbs_of_target used)
  compared {used} {xs} limbs value = record {
    reached = λ e.
        subst (λ (x : ℕ). target half_hundredths n ≤ raised half_hundredths x) (sym sum)
        (reached half_hundredths n (800 - 3 * n) exponent (middle pattern) exponents in_range
        (subst (λ (x : ℕ). x ≤ 10 ^ (800 - 3 * n) * middle pattern ^ 200) limbs_are
        (subst (λ (x : ℕ). 1024 ^ limbs_of_target ≤ x) value (more_limbs limbs_of_target limbs (ltb-true _ _ e)))));
    not_reached = λ e.
        subst (λ (x : ℕ). raised half_hundredths x < target half_hundredths n) (sym sum)
        (not_reached half_hundredths n (800 - 3 * n) exponent (middle pattern) exponents in_range
        (subst (λ (x : ℕ). 10 ^ (800 - 3 * n) * middle pattern ^ 200 < x) limbs_are
        (subst (λ (x : ℕ). x < 1024 ^ limbs_of_target) value (no_more_limbs limbs_of_target limbs (ltb-false _ _ e)))));
  }
