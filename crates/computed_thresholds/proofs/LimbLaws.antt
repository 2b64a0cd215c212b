-- Laws of a number in limbs: one limb more, and a limb stored at the top. Assumes nothing.
use mathlib.Core.Path.{◌≡◌, refl, sym, ap, ap₂, ◌∙◌, subst}
use mathlib.Core.List.{List}
use Prim.Native.Nat.{ℕ, zero, suc, ◌+◌, ◌*◌, ◌/◌, ◌%◌, ◌^◌, ◌≤◌, ◌<◌}
use native.Mathlib.Nat.{mul_assoc, add-mul, mul_comm, pow-suc, mod-lt, div-add-mod', pow-le-pow_right, lt_irrefl}
use native.Mathlib.Numerals.{add-one}
use native.Mathlib.Omega.{arith}
use native.Mathlib.Decide.{ℕ_discrete}
use lib.Dec.{lit<}
use lib.ListN.{get_or, length, set}
use lib.Seq.{get_or-set_same, get_or-set_other}
use Rattle.computed_thresholds.specs.Limbs.{number}

pub number_more : (xs : List ℕ) (i : ℕ) → number xs (i + 1) ≡ number xs i + get_or xs i 0 * 1024 ^ i
unfolding number
number_more xs i = ap (number xs) (add-one i)

pub power_more : (i : ℕ) → 1024 ^ (i + 1) ≡ 1024 * 1024 ^ i
power_more i = ap (λ (k : ℕ). 1024 ^ k) (add-one i) ∙ pow-suc 1024 i ∙ mul_comm (1024 ^ i) 1024

pub power_positive : (i : ℕ) → 0 < 1024 ^ i
power_positive i = pow-le-pow_right {n = 1024} (lit< tt) {i = 0} {j = i} (omega arith)

-- The number in the limbs below a stored one stays.
number_below : (xs : List ℕ) (i v used : ℕ) → used ≤ i → number (set xs i v) used ≡ number xs used
unfolding number
number_below xs i v zero h = refl
number_below xs i v (suc used) h =
    ap₂ (λ (x y : ℕ). x + y * 1024 ^ used) (number_below xs i v used (omega arith))
    (get_or-set_other xs i used v 0 (λ e. lt_irrefl i (subst (λ (k : ℕ). k < i) e h)))

split : (x P : ℕ) → x % 1024 * P + x / 1024 * (1024 * P) ≡ x * P
split x P =
    let e : (x / 1024 * 1024 + x % 1024) * P ≡ x * P = ap (λ (y : ℕ). y * P) (div-add-mod' x 1024) in
    omega (arith, e, add-mul (x / 1024 * 1024) (x % 1024) P, mul_assoc (x / 1024) 1024 P)

-- The lowest ten bits of x in limb i, and the rest left over for the limbs above.
pub store_value : (xs : List ℕ) (i x : ℕ) → i < length xs
    → number (set xs i (x % 1024)) (i + 1) + x / 1024 * 1024 ^ (i + 1) ≡ number xs i + x * 1024 ^ i
store_value xs i x h =
    let low : number (set xs i (x % 1024)) (i + 1) ≡ number xs i + x % 1024 * 1024 ^ i =
    number_more (set xs i (x % 1024)) i
    ∙ ap₂ (λ (a b : ℕ). a + b * 1024 ^ i) (number_below xs i (x % 1024) i (omega arith)) (get_or-set_same xs i (x % 1024) 0 h) in
    let high : x / 1024 * 1024 ^ (i + 1) ≡ x / 1024 * (1024 * 1024 ^ i) = ap (λ (k : ℕ). x / 1024 * k) (power_more i) in
    omega (arith, low, high, split x (1024 ^ i))

-- Limbs are small where a small one is stored.
pub store_small : (xs : List ℕ) (i x k : ℕ) → i < length xs → ((k ≡ i → ⊥) → get_or xs k 0 < 1024) → get_or (set xs i (x % 1024)) k 0 < 1024
store_small xs i x k h other = by_place (ℕ_discrete k i)
  where
    by_place : Dec (k ≡ i) → get_or (set xs i (x % 1024)) k 0 < 1024
    by_place (yes e) =
        subst (λ (y : ℕ). y < 1024) (sym (ap (λ (j : ℕ). get_or (set xs i (x % 1024)) j 0) e ∙ get_or-set_same xs i (x % 1024) 0 h)) (mod-lt x (lit< tt))
    by_place (no ne) = subst (λ (y : ℕ). y < 1024) (sym (get_or-set_other xs i k (x % 1024) 0 ne)) (other ne)
