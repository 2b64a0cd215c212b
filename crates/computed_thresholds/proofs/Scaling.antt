-- The loop of `limbs::scale`: what holds at each limb. Assumes nothing.
use mathlib.Core.Path.{◌≡◌, refl, sym, ap, ◌∙◌, subst}
use mathlib.Core.List.{List}
use Prim.Native.Nat.{ℕ, ◌+◌, ◌*◌, ◌/◌, ◌%◌, ◌^◌, ◌≤◌, ◌<◌}
use native.Mathlib.Nat.{add-mul, mul_right_comm, zero-mul, mul-le-mul_right, lt_irrefl}
use native.Mathlib.Omega.{arith}
use lib.ListN.{get_or, length, set, length-set}
use lib.Seq.{get_or-set_other}
use Rattle.computed_thresholds.specs.Limbs.{number, AllSmall, Scaled, most_factor}
use Rattle.computed_thresholds.proofs.LimbLaws.{number_more, store_value, store_small}

-- Limbs below i are multiplied, the others are as they were.
pub record Scaling (before : List ℕ) (used factor : ℕ) (xs : List ℕ) (over i : ℕ) : Type 0 where
  pub inside : i ≤ used
  pub over_small : over ≤ factor
  pub small : AllSmall xs used
  pub rest : (k : ℕ) → i ≤ k → get_or xs k 0 ≡ get_or before k 0
  pub value : number xs i + over * 1024 ^ i ≡ number before i * factor

pub starts : (xs : List ℕ) (used factor : ℕ) → AllSmall xs used → Scaling xs used factor xs 0 0
unfolding number
starts xs used factor small = record {
  inside = omega arith;
  over_small = omega arith;
  small = small;
  rest = λ k h. refl;
  value = sym (zero-mul factor);
}

module _ {before : List ℕ} {used factor : ℕ} {xs : List ℕ} {over i : ℕ} where
  pub product_fits : Scaling before used factor xs over i → i < used → factor ≤ most_factor → get_or xs i 0 * factor + over < 2 ^ 64
  product_fits s h most =
      let limb : get_or xs i 0 < 1024 = s.small.2 i h in
      let product : get_or xs i 0 * factor ≤ 1023 * factor = mul-le-mul_right factor (omega arith) in
      omega (arith, s.over_small)

  pub within : Scaling before used factor xs over i → i < used → i < length xs
  within s h = omega (arith, s.small.0, s.small.1)

  value_more : Scaling before used factor xs over i → i < used
      → number (set xs i ((get_or xs i 0 * factor + over) % 1024)) (i + 1) + (get_or xs i 0 * factor + over) / 1024 * 1024 ^ (i + 1)
      ≡ number before (i + 1) * factor
  value_more s h =
      let P = 1024 ^ i in
      let sum = get_or xs i 0 * factor + over in
      let more : number before (i + 1) * factor ≡ (number before i + get_or before i 0 * P) * factor = ap (λ (y : ℕ). y * factor) (number_more before i) in
      let same : get_or xs i 0 * factor * P ≡ get_or before i 0 * factor * P = ap (λ (y : ℕ). y * factor * P) (s.rest i (omega arith)) in
      omega (
        arith,
        store_value xs i sum (within s h),
        s.value,
        more,
        same,
        add-mul (get_or xs i 0 * factor) over P,
        mul_right_comm (get_or before i 0) factor P,
        add-mul (number before i) (get_or before i 0 * P) factor,
      )

  pub step : Scaling before used factor xs over i → i < used
      → Scaling before used factor (set xs i ((get_or xs i 0 * factor + over) % 1024)) ((get_or xs i 0 * factor + over) / 1024) (i + 1)
  step s h = let sum = get_or xs i 0 * factor + over in record {
    inside = omega arith;
    over_small =
        let limb : get_or xs i 0 < 1024 = s.small.2 i h in
        let product : get_or xs i 0 * factor ≤ 1023 * factor = mul-le-mul_right factor (omega arith) in
        omega (arith, s.over_small);
    small = (length-set xs i (sum % 1024) ∙ s.small.0, s.small.1, λ k l. store_small xs i sum k (within s h) (λ ne. s.small.2 k l));
    rest = λ k l. get_or-set_other xs i k (sum % 1024) 0 (λ e. lt_irrefl i (subst (λ (j : ℕ). i < j) e (omega arith))) ∙ s.rest k (omega arith);
    value = value_more s h;
  }

  pub ends : Scaling before used factor xs over i → (i < used → ⊥) → Scaled before used factor over xs
  ends s h =
      let e : i ≡ used = let l = s.inside in omega arith in
      record { small = s.small; value = subst (λ (j : ℕ). number xs j + over * 1024 ^ j ≡ number before j * factor) e s.value }
