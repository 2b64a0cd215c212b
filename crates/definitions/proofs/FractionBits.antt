-- P of a constant is "the least s from 0 up making c * 2 ^ s whole": c * 2 ^ s is whole exactly from fraction_bits on.
use Prim.Native.Nat.{ℕ, zero, suc, ◌+◌, ◌-◌, ◌*◌, ◌%◌, ◌^◌, ◌<◌, ◌≤◌}
use mathlib.Core.Path.{◌≡◌, refl, sym, ap, ◌∙◌, subst}
use mathlib.Core.Bool.{Bool, ◌&&◌}
use lib.Dec.{T, eqb, leb, ltb}
use lib.IntN.{ℤ, pos, negsuc}
use lib.Ieee.{Float, fin, binary64, of_bits, fits, prec, low, emax}
use lib.Ieee.Bits.{of_bits-fits}
use lib.Ieee.Fits.{and_l}
use lib.Pow.{pow-add, pow_pos}
use native.Mathlib.Omega.{arith}
use native.Mathlib.Decide.{dec_le}
use native.Mathlib.Nat.{mul_assoc, mul_comm, mul-one, one-mul, zero-mul, pow-suc, eq_of_mul-eq-mul_right}
use borrow.Author.Tests.{eqb-true}
use Rattle.definitions.specs.Value.{fraction_bits, WholeAt, LeastShift}
use Rattle.definitions.proofs.Prune.{T-is}

-- m is odd, or the number is 0 and written with exponent 0
odd_or_zero : (b : Bool) (m : ℕ) (e : ℤ) → T (fits binary64 (fin b m e)) → (fraction_bits e ≡ 0 → ⊥) → m % 2 ≡ 1
unfolding fits
odd_or_zero b m (pos k) t n = absurd (n refl)
odd_or_zero b zero (negsuc k) t n =
    absurd (let h = eqb-true (1 * 2 ^ suc k) 1 (T-is (eqb (1 * 2 ^ suc k) 1) t) in let p = pow-suc 2 k in let q = pow_pos k in omega (arith, one-mul (2 ^ suc k)))
odd_or_zero b (suc m) (negsuc k) t n =
    let A = eqb (suc m % 2) 1 in
    let B = ltb (suc m) (2 ^ prec binary64) in
    let C = leb (2 ^ suc k) (2 ^ low binary64) in
    let D = ltb (suc m * 1) (2 ^ suc (emax binary64) * 2 ^ suc k) in
    eqb-true (suc m % 2) 1 (T-is A (and_l A B (and_l (A && B) C (and_l (A && B && C) D t))))

-- an odd number times 2 ^ s is no multiple of a larger power of two
too_few : (m s w d : ℕ) → m % 2 ≡ 1 → m * 2 ^ s ≡ w * 2 ^ (s + suc d) → ⊥
too_few m s w d odd e =
    let p : 2 ^ (s + suc d) ≡ 2 ^ suc d * 2 ^ s = pow-add 2 s (suc d) ∙ mul_comm (2 ^ s) (2 ^ suc d) in
    let q : m * 2 ^ s ≡ w * 2 ^ suc d * 2 ^ s = e ∙ ap (λ (x : ℕ). w * x) p ∙ sym (mul_assoc w (2 ^ suc d) (2 ^ s)) in
    let r : m ≡ w * 2 ^ suc d = eq_of_mul-eq-mul_right (2 ^ s) (pow_pos s) m (w * 2 ^ suc d) q in
    let t : w * 2 ^ suc d ≡ w * 2 ^ d * 2 = ap (λ (x : ℕ). w * x) (pow-suc 2 d) ∙ sym (mul_assoc w (2 ^ d) 2) in
    omega arith

pub whole_from : (m : ℕ) (e : ℤ) (s : ℕ) → fraction_bits e ≤ s → WholeAt m e s
whole_from m (pos k) s h = record { whole = m * 2 ^ k * 2 ^ s; is = sym (mul-one (m * 2 ^ k * 2 ^ s)) }
whole_from m (negsuc k) s h =
    let r = s - suc k in
    let p : 2 ^ s ≡ 2 ^ r * 2 ^ suc k = ap (λ (x : ℕ). 2 ^ x) (let f : s ≡ r + suc k = omega arith in f) ∙ pow-add 2 r (suc k) in
    record { whole = m * 2 ^ r; is = ap (λ (x : ℕ). x * 2 ^ s) (mul-one m) ∙ ap (λ (x : ℕ). m * x) p ∙ sym (mul_assoc m (2 ^ r) (2 ^ suc k)) }

pub whole_only_from : (bits : ℕ) (b : Bool) (m : ℕ) (e : ℤ) (s : ℕ) → of_bits binary64 bits ≡ fin b m e → WholeAt m e s → fraction_bits e ≤ s
whole_only_from bits b m (pos k) s h w = omega arith
whole_only_from bits b m (negsuc k) s h w = go (dec_le (suc k) s)
  where
    held : T (fits binary64 (fin b m (negsuc k)))
    held = subst (λ (x : Float). T (fits binary64 x)) h (of_bits-fits binary64 bits)

    go : Dec (suc k ≤ s) → suc k ≤ s
    go (yes l) = l
    go (no n) =
        let d = suc k - suc s in
        absurd (too_few m s w.whole d (odd_or_zero b m (negsuc k) held (λ z. omega arith))
        (ap (λ (x : ℕ). x * 2 ^ s) (sym (mul-one m)) ∙ w.is ∙ ap (λ (x : ℕ). w.whole * 2 ^ x) (let f : suc k ≡ s + suc d = omega arith in f)))

pub least_shift : LeastShift
least_shift bits b m e h = (whole_from m e (fraction_bits e) (omega arith), λ s w. whole_only_from bits b m e s h w)
