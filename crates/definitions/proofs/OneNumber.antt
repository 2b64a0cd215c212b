-- Equal numbers are those of fractions that are one number: nothing else is made one.
use Prim.Native.Nat.{ℕ, zero, ◌+◌, ◌*◌, ◌^◌, ◌<◌}
use mathlib.Core.Path.{◌≡◌, refl, sym, ap}
use mathlib.Core.Logic.{Equivalence}
use mathlib.Mathlib.Data.Quot.{Equivalence-Quot-mk-eq_iff}
use lib.Pow.{pow_pos}
use native.Mathlib.Omega.{arith}
use native.Mathlib.Nat.{ℕ_set, add-mul, mul_right_comm, eq_of_mul-eq-mul_right}
use Rattle.definitions.specs.Dyadic.{Fraction, Same, EqualNumbers}

trans_law : (p n q m r k A B C : ℕ) → zero < B → p * B + m * A ≡ q * A + n * B → q * C + k * B ≡ r * B + m * C → p * C + k * A ≡ r * A + n * C
trans_law p n q m r k A B C pos h g =
    let e : (p * B + m * A) * C ≡ (q * A + n * B) * C = ap (λ (x : ℕ). x * C) h in
    let f : (q * C + k * B) * A ≡ (r * B + m * C) * A = ap (λ (x : ℕ). x * A) g in
    eq_of_mul-eq-mul_right B pos (p * C + k * A) (r * A + n * C)
    (omega (
      arith,
      e,
      f,
      add-mul (p * B) (m * A) C,
      add-mul (q * A) (n * B) C,
      add-mul (q * C) (k * B) A,
      add-mul (r * B) (m * C) A,
      add-mul (p * C) (k * A) B,
      add-mul (r * A) (n * C) B,
      mul_right_comm p B C,
      mul_right_comm m A C,
      mul_right_comm q A C,
      mul_right_comm n B C,
      mul_right_comm k B A,
      mul_right_comm r B A,
    ))

same_equivalence : Equivalence Same
same_equivalence = record {
  refl = λ a. refl;
  symm = λ a b h. sym h;
  trans = λ a b c h g.
      trans_law a.positive a.negative b.positive b.negative c.positive c.negative (2 ^ a.bits) (2 ^ b.bits) (2 ^ c.bits) (pow_pos b.bits) h g;
}

pub equal_numbers : EqualNumbers
equal_numbers a b = (Equivalence-Quot-mk-eq_iff same_equivalence (λ x y. ℕ_set _ _) a b).0
