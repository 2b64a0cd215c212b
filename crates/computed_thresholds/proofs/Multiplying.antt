-- A number in limbs times a factor, and times a power of it. Assumes nothing.
use mathlib.Core.Path.{◌≡◌, sym, ap, ◌∙◌, subst}
use mathlib.Core.List.{List}
use Prim.Native.Nat.{ℕ, ◌+◌, ◌*◌, ◌^◌, ◌≤◌, ◌<◌}
use native.Mathlib.Nat.{mul-le-mul_left, mul-one, mul_assoc, pow-zero, pow-suc, pow-le-pow_right, lt_of_le_of_lt, le_trans, le_of_eq}
use native.Mathlib.Numerals.{add-one}
use native.Mathlib.Omega.{arith}
use Rattle.computed_thresholds.specs.Limbs.{number, fitting, Limbs, Scaled, Appends, Appended, Multiplied}

pub appends : {xs : List ℕ} {used factor over : ℕ} {xs' : List ℕ} → Limbs xs used → 0 < factor → number xs used * factor < fitting
    → Scaled xs used factor over xs' → Appends xs' used over
appends {xs} {used} {factor} limbs positive fits s =
    let at_least : number xs used * 1 ≤ number xs used * factor = mul-le-mul_left (number xs used) positive in
    record {
      small = s.small;
      long = omega (arith, limbs.long, s.value, at_least, mul-one (number xs used));
      fits = subst (λ (y : ℕ). y < fitting) (sym s.value) fits;
    }

pub multiplied : {xs : List ℕ} {used factor over used'' : ℕ} {xs' xs'' : List ℕ} → Scaled xs used factor over xs' → Appended xs' used over used'' xs''
    → Multiplied xs used factor used'' xs''
multiplied s a = record { limbs = a.limbs; value = a.value ∙ s.value }

-- ---- powers

pub none : {xs : List ℕ} {used : ℕ} (factor : ℕ) → Limbs xs used → Multiplied xs used (factor ^ 0) used xs
none {xs} {used} factor limbs = record { limbs = limbs; value = sym (ap (λ (y : ℕ). number xs used * y) (pow-zero factor) ∙ mul-one (number xs used)) }

module _ {xs : List ℕ} {used : ℕ} (factor done : ℕ) {count : ℕ} {xs' : List ℕ} where
  value_more : Multiplied xs used (factor ^ done) count xs' → number xs' count * factor ≡ number xs used * factor ^ (done + 1)
  value_more m =
      ap (λ (y : ℕ). y * factor) m.value ∙ mul_assoc (number xs used) (factor ^ done) factor
      ∙ ap (λ (y : ℕ). number xs used * y) (sym (ap (λ (k : ℕ). factor ^ k) (add-one done) ∙ pow-suc factor done))

  pub fits_more : (times : ℕ) → Multiplied xs used (factor ^ done) count xs' → 0 < factor → done < times → number xs used * factor ^ times < fitting
      → number xs' count * factor < fitting
  fits_more times m positive h fits =
      lt_of_le_of_lt (le_trans (le_of_eq (value_more m)) (mul-le-mul_left (number xs used) (pow-le-pow_right positive (omega arith)))) fits

  pub more : {count' : ℕ} {xs'' : List ℕ} → Multiplied xs used (factor ^ done) count xs' → Multiplied xs' count factor count' xs''
      → Multiplied xs used (factor ^ (done + 1)) count' xs''
  more m n = record { limbs = n.limbs; value = n.value ∙ value_more m }
