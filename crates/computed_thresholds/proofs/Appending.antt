-- The loop of `limbs::append`: what holds at each limb. Assumes nothing.
use mathlib.Core.Path.{◌≡◌, refl, sym, ap, ◌∙◌, subst}
use mathlib.Core.List.{List}
use Prim.Native.Nat.{ℕ, ◌+◌, ◌*◌, ◌/◌, ◌%◌, ◌^◌, ◌≤◌, ◌<◌}
use native.Mathlib.Nat.{mul-le-mul_right, one-mul, zero-mul, add-zero, lt_of_not-le, lt_irrefl, lt_of_lt_of_le, le_trans, pow-le-pow_right}
use native.Mathlib.Omega.{arith}
use lib.Dec.{lit<}
use lib.ListN.{length, set, length-set}
use Rattle.computed_thresholds.specs.Limbs.{number, fitting, appended, AllSmall, Appends, Appended, most_limbs}
use Rattle.computed_thresholds.proofs.LimbLaws.{power_more, store_value, store_small}

pub record Appending (before : List ℕ) (used left : ℕ) (xs : List ℕ) (over count : ℕ) : Type 0 where
  pub small : AllSmall xs count
  pub value : appended xs count over ≡ appended before used left
  pub long : 1024 ^ count ≤ 1024 * appended before used left

pub starts : (xs : List ℕ) (used left : ℕ) → Appends xs used left → Appending xs used left xs left used
starts xs used left a = record { small = a.small; value = refl; long = a.long }

module _ {before : List ℕ} {used left : ℕ} {xs : List ℕ} {over count : ℕ} where
  -- something is left over: the number has a limb at this place
  reaches : Appending before used left xs over count → 0 < over → 1024 ^ count ≤ appended before used left
  reaches s h =
      let once : 1 * 1024 ^ count ≤ over * 1024 ^ count = mul-le-mul_right (1024 ^ count) h in
      omega (arith, once, s.value, one-mul (1024 ^ count))

  pub room : Appends before used left → Appending before used left xs over count → 0 < over → count < most_limbs
  unfolding fitting
  room a s h =
      lt_of_not-le (λ (l : most_limbs ≤ count).
      lt_irrefl (appended before used left)
      (lt_of_lt_of_le a.fits (le_trans (pow-le-pow_right {n = 1024} (lit< tt) {i = most_limbs} {j = count} l) (reaches s h))))

  pub within : Appends before used left → Appending before used left xs over count → 0 < over → count < length xs
  within a s h = let l : count < most_limbs = room a s h in omega (arith, s.small.0)

  pub step : Appends before used left → Appending before used left xs over count → 0 < over
      → Appending before used left (set xs count (over % 1024)) (over / 1024) (count + 1)
  step a s h =
      let l : count < most_limbs = room a s h in
      record {
        small = (
          length-set xs count (over % 1024) ∙ s.small.0,
          omega arith,
          λ k below. store_small xs count over k (within a s h) (λ ne. s.small.2 k (omega (arith, ne))),
        );
        value = store_value xs count over (within a s h) ∙ s.value;
        long = omega (arith, power_more count, reaches s h);
      }

  pub ends : Appending before used left xs over count → (0 < over → ⊥) → Appended before used left count xs
  ends s h =
      let none : over ≡ 0 = omega arith in
      let value : number xs count ≡ appended before used left =
      sym (add-zero (number xs count)) ∙ ap (λ (y : ℕ). number xs count + y) (sym (zero-mul (1024 ^ count)) ∙ ap (λ (y : ℕ). y * 1024 ^ count) (sym none)) ∙ s.value in
      record {
        limbs = record { small = s.small; long = subst (λ (y : ℕ). 1024 ^ count ≤ 1024 * y) (sym value) s.long };
        value = value;
      }
