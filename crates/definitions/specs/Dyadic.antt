-- Whole numbers over powers of two, with plain equality: the fractions (positive - negative) / 2 ^ bits, those of one number made one.
use Rattle.std.specs.Prelude.{ℕ, zero, suc, ◌+◌, ◌*◌, ◌^◌, ◌<◌, ◌≤◌, ◌≡◌, refl}
use Rattle.std.proofs.Common.{sym, ap, ◌∙◌, subst, subst₂, arith, add-mul, mul_comm, mul_assoc, mul_left_comm, add_comm, mul-one, zero-mul, mul-zero, one-mul, add-zero, zero-add, add_assoc, mul_right_comm, pow-add, pow_pos}
use mathlib.Core.Quot.{Quot, mk, sound, lift, Quot-set, ind}
use mathlib.Mathlib.Data.Quot.{lift₂}
use Rattle.std.proofs.Math.Nat.{mul-mul-mul_comm, pow-zero, eq_of_mul-eq-mul_right}

pub record Fraction : Type 0 where
  pub positive : ℕ
  pub negative : ℕ
  pub bits : ℕ

abbrev pub fraction : ℕ → ℕ → ℕ → Fraction
fraction p n b = record { positive = p; negative = n; bits = b }

-- two fractions are one number
abbrev pub Same : Fraction → Fraction → Type 0
Same a b = a.positive * 2 ^ b.bits + b.negative * 2 ^ a.bits ≡ b.positive * 2 ^ a.bits + a.negative * 2 ^ b.bits

abbrev pub plus_fraction : Fraction → Fraction → Fraction
plus_fraction a b = fraction (a.positive * 2 ^ b.bits + b.positive * 2 ^ a.bits) (a.negative * 2 ^ b.bits + b.negative * 2 ^ a.bits) (a.bits + b.bits)

abbrev pub times_fraction : Fraction → Fraction → Fraction
times_fraction a b = fraction (a.positive * b.positive + a.negative * b.negative) (a.positive * b.negative + a.negative * b.positive) (a.bits + b.bits)

abbrev pub opposite_fraction : Fraction → Fraction
opposite_fraction a = fraction a.negative a.positive a.bits

-- ---- the operations keep sameness
add_law : (p n p' n' q m A A' B : ℕ) → p * A' + n' * A ≡ p' * A + n * A'
    → (p * B + q * A) * (A' * B) + (n' * B + m * A') * (A * B) ≡ (p' * B + q * A') * (A * B) + (n * B + m * A) * (A' * B)
add_law p n p' n' q m A A' B h =
    let e : (p * A' + n' * A) * (B * B) ≡ (p' * A + n * A') * (B * B) = ap (λ (x : ℕ). x * (B * B)) h in
    omega (
      arith,
      e,
      add-mul (p * A') (n' * A) (B * B),
      add-mul (p' * A) (n * A') (B * B),
      add-mul (p * B) (q * A) (A' * B),
      add-mul (n' * B) (m * A') (A * B),
      add-mul (p' * B) (q * A') (A * B),
      add-mul (n * B) (m * A) (A' * B),
      mul-mul-mul_comm p B A' B,
      mul-mul-mul_comm n' B A B,
      mul-mul-mul_comm p' B A B,
      mul-mul-mul_comm n B A' B,
      mul-mul-mul_comm q A A' B,
      mul-mul-mul_comm m A' A B,
    )

times_law : (p n p' n' q m A A' B : ℕ) → p * A' + n' * A ≡ p' * A + n * A'
    → (p * q + n * m) * (A' * B) + (p' * m + n' * q) * (A * B) ≡ (p' * q + n' * m) * (A * B) + (p * m + n * q) * (A' * B)
times_law p n p' n' q m A A' B h =
    let e : (p * A' + n' * A) * (q * B) ≡ (p' * A + n * A') * (q * B) = ap (λ (x : ℕ). x * (q * B)) h in
    let f : (p * A' + n' * A) * (m * B) ≡ (p' * A + n * A') * (m * B) = ap (λ (x : ℕ). x * (m * B)) h in
    omega (
      arith,
      e,
      f,
      add-mul (p * A') (n' * A) (q * B),
      add-mul (p' * A) (n * A') (q * B),
      add-mul (p * A') (n' * A) (m * B),
      add-mul (p' * A) (n * A') (m * B),
      add-mul (p * q) (n * m) (A' * B),
      add-mul (p' * m) (n' * q) (A * B),
      add-mul (p' * q) (n' * m) (A * B),
      add-mul (p * m) (n * q) (A' * B),
      mul-mul-mul_comm p q A' B,
      mul-mul-mul_comm n m A' B,
      mul-mul-mul_comm p' m A B,
      mul-mul-mul_comm n' q A B,
      mul-mul-mul_comm p' q A B,
      mul-mul-mul_comm n' m A B,
      mul-mul-mul_comm p m A' B,
      mul-mul-mul_comm n q A' B,
    )

pub plus_left : (a a' b : Fraction) → Same a a' → Same (plus_fraction a b) (plus_fraction a' b)
plus_left a a' b h =
    rw (pow-add 2 a.bits b.bits, pow-add 2 a'.bits b.bits)
    (add_law a.positive a.negative a'.positive a'.negative b.positive b.negative (2 ^ a.bits) (2 ^ a'.bits) (2 ^ b.bits) h)

pub times_left : (a a' b : Fraction) → Same a a' → Same (times_fraction a b) (times_fraction a' b)
times_left a a' b h =
    rw (pow-add 2 a.bits b.bits, pow-add 2 a'.bits b.bits)
    (times_law a.positive a.negative a'.positive a'.negative b.positive b.negative (2 ^ a.bits) (2 ^ a'.bits) (2 ^ b.bits) h)

pub fraction_eq : {p q n m k j : ℕ} → p ≡ q → n ≡ m → k ≡ j → fraction p n k ≡ fraction q m j
fraction_eq a b c = λ i. fraction (a i) (b i) (c i)

pub plus_fraction_comm : (a b : Fraction) → plus_fraction a b ≡ plus_fraction b a
plus_fraction_comm a b = fraction_eq (add_comm (a.positive * 2 ^ b.bits) (b.positive * 2 ^ a.bits)) (add_comm (a.negative * 2 ^ b.bits) (b.negative * 2 ^ a.bits)) (add_comm a.bits b.bits)

pub times_fraction_comm : (a b : Fraction) → times_fraction a b ≡ times_fraction b a
times_fraction_comm a b = fraction_eq
    (omega (arith, mul_comm a.positive b.positive, mul_comm a.negative b.negative))
    (omega (arith, mul_comm a.positive b.negative, mul_comm a.negative b.positive))
    (add_comm a.bits b.bits)

pub plus_right : (a b b' : Fraction) → Same b b' → Same (plus_fraction a b) (plus_fraction a b')
plus_right a b b' h = subst₂ Same (plus_fraction_comm b a) (plus_fraction_comm b' a) (plus_left b b' a h)

pub times_right : (a b b' : Fraction) → Same b b' → Same (times_fraction a b) (times_fraction a b')
times_right a b b' h = subst₂ Same (times_fraction_comm b a) (times_fraction_comm b' a) (times_left b b' a h)

pub opposite_same : (a b : Fraction) → Same a b → Same (opposite_fraction a) (opposite_fraction b)
opposite_same a b h = omega (arith, h)

-- ---- the numbers
abbrev pub Dyadic : Type 0
Dyadic = Quot Same

abbrev pub dyadic : Fraction → Dyadic
dyadic a = mk a

-- equal numbers are those of fractions that are one number: nothing else is made one (proved in proofs/OneNumber)
abbrev pub EqualNumbers : Type 0
EqualNumbers = (a b : Fraction) → dyadic a ≡ dyadic b → Same a b

unfoldable pub plus : Dyadic → Dyadic → Dyadic
plus x y = lift₂ Quot-set (λ a b. dyadic (plus_fraction a b)) (λ a b c h. sound (plus_right a b c h)) (λ a b c h. sound (plus_left a b c h)) x y

unfoldable pub times : Dyadic → Dyadic → Dyadic
times x y = lift₂ Quot-set (λ a b. dyadic (times_fraction a b)) (λ a b c h. sound (times_right a b c h)) (λ a b c h. sound (times_left a b c h)) x y

unfoldable pub opposite : Dyadic → Dyadic
opposite x = lift Quot-set (λ a. dyadic (opposite_fraction a)) (λ a b h. sound (opposite_same a b h)) x

abbrev pub zero_value : Dyadic
zero_value = dyadic (fraction 0 0 0)

abbrev pub one_value : Dyadic
one_value = dyadic (fraction 1 0 0)
