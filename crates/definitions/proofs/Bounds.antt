-- The order of bounds: fewer fraction bits and a smaller W.
use Prim.Native.Nat.{ℕ, zero, suc, ◌+◌, ◌*◌, ◌^◌, ◌<◌, ◌≤◌, max}
use mathlib.Core.Path.{◌≡◌, refl, sym, ap, ◌∙◌, subst, subst₂}
use mathlib.Core.Bool.{Bool, true, false, cond, ◌||◌}
use mathlib.Core.List.{List, [], ◌∷◌}
use native.Mathlib.Omega.{arith}
use native.Mathlib.Nat.{add-mul, mul-mul-mul_comm, mul_comm, mul_assoc, mul_right_comm, mul-le-mul, mul-le-mul_right, mul-le-mul_left, le_of_mul-le-mul_right, le_refl, le_trans, le_of_eq, mul-one, one-mul, add-zero, add_comm, add_assoc, zero-mul}
use lib.Dec.{eqb}
use lib.Ieee.{binary64, of_bits}
use lib.Pow.{pow-add, pow_pos, pow_mono}
use Rattle.definitions.specs.Exact.{Bound, bound_by, unit_bound, constant_bound, add_bound, mul_bound, sum_bound, product_bound, first_bound, node_bound, Within}

pub record Le (a b : Bound) : Type 0 where
  pub fewer : a.bits ≤ b.bits
  pub lighter : a.top * 2 ^ b.under ≤ b.top * 2 ^ a.under

pub le_self : (a : Bound) → Le a a
le_self a = record { fewer = le_refl _; lighter = le_refl _ }

pub le_then : {a b c : Bound} → Le a b → Le b c → Le a c
le_then {a} {b} {c} x y =
    let A = 2 ^ a.under in
    let B = 2 ^ b.under in
    let C = 2 ^ c.under in
    let h : a.top * C * B ≤ c.top * A * B =
    omega (arith, mul-le-mul_right C x.lighter, mul-le-mul_right A y.lighter, mul_right_comm a.top B C, mul_right_comm b.top A C, mul_right_comm c.top B A) in
    record { fewer = le_trans x.fewer y.fewer; lighter = le_of_mul-le-mul_right h (pow_pos b.under) }

add_mono_law : (a b a' b' A B A' B' : ℕ) → a * A' ≤ a' * A → b * B' ≤ b' * B → (a * B + b * A) * (A' * B') ≤ (a' * B' + b' * A') * (A * B)
add_mono_law a b a' b' A B A' B' x y =
    omega (
      arith,
      mul-le-mul_right (B * B') x,
      mul-le-mul_right (A * A') y,
      add-mul (a * B) (b * A) (A' * B'),
      add-mul (a' * B') (b' * A') (A * B),
      mul-mul-mul_comm a B A' B',
      mul-mul-mul_comm a' B' A B,
      ap (λ (z : ℕ). a' * A * z) (mul_comm B' B),
      ap (λ (z : ℕ). b * A * z) (mul_comm A' B'),
      mul-mul-mul_comm b A B' A',
      ap (λ (z : ℕ). b' * A' * z) (mul_comm A B),
      mul-mul-mul_comm b' A' B A,
      ap (λ (z : ℕ). b' * B * z) (mul_comm A' A),
    )

pub add_b_mono : {a a' b b' : Bound} → Le a a' → Le b b' → Le (add_bound a b) (add_bound a' b')
add_b_mono {a} {a'} {b} {b'} x y = record {
  fewer = omega (arith, x.fewer, y.fewer);
  lighter = rw (pow-add 2 a.under b.under, pow-add 2 a'.under b'.under)
      (add_mono_law a.top b.top a'.top b'.top (2 ^ a.under) (2 ^ b.under) (2 ^ a'.under) (2 ^ b'.under) x.lighter y.lighter);
}

mul_mono_law : (a b a' b' A B A' B' : ℕ) → a * A' ≤ a' * A → b * B' ≤ b' * B → a * b * (A' * B') ≤ a' * b' * (A * B)
mul_mono_law a b a' b' A B A' B' x y = omega (arith, mul-le-mul x y, mul-mul-mul_comm a b A' B', mul-mul-mul_comm a' b' A B)

pub mul_b_mono : {a a' b b' : Bound} → Le a a' → Le b b' → Le (mul_bound a b) (mul_bound a' b')
mul_b_mono {a} {a'} {b} {b'} x y = record {
  fewer = omega (arith, x.fewer, y.fewer);
  lighter = rw (pow-add 2 a.under b.under, pow-add 2 a'.under b'.under)
      (mul_mono_law a.top b.top a'.top b'.top (2 ^ a.under) (2 ^ b.under) (2 ^ a'.under) (2 ^ b'.under) x.lighter y.lighter);
}

left_law : (a b A B : ℕ) → a * (A * B) ≤ (a * B + b * A) * A
left_law a b A B = omega (arith, add-mul (a * B) (b * A) A, mul_assoc a A B, mul_right_comm a A B)

right_law : (a b A B : ℕ) → b * (A * B) ≤ (a * B + b * A) * B
right_law a b A B = omega (arith, add-mul (a * B) (b * A) B, mul_assoc b A B)

pub le_left : (a b : Bound) → Le a (add_bound a b)
le_left a b = record { fewer = omega arith; lighter = rw (pow-add 2 a.under b.under) (left_law a.top b.top (2 ^ a.under) (2 ^ b.under)) }

pub le_right : (a b : Bound) → Le b (add_bound a b)
le_right a b = record { fewer = omega arith; lighter = rw (pow-add 2 a.under b.under) (right_law a.top b.top (2 ^ a.under) (2 ^ b.under)) }

-- a smaller bound is small too
pub small_le : {a b : Bound} → Le a b → Within b → Within a
small_le {a} {b} x s =
    let A = 2 ^ a.under in
    let B = 2 ^ b.under in
    let P = 2 ^ b.bits in
    let p = 2 ^ a.bits in
    let h1 : a.top * p ≤ a.top * P = mul-le-mul_left a.top (pow_mono x.fewer) in
    let h2 : a.top * P * B ≤ b.top * P * A = omega (arith, mul-le-mul_right P x.lighter, mul_right_comm a.top B P, mul_right_comm b.top A P) in
    let h3 : b.top * P * A ≤ 2 ^ 53 * A * B = le_trans (mul-le-mul_right A s) (le_of_eq (mul_right_comm (2 ^ 53) B A)) in
    le_of_mul-le-mul_right (le_trans (mul-le-mul_right B h1) (le_trans h2 h3)) (pow_pos b.under)

abbrev pub LeAll : List Bound → List Bound → Type 0
LeAll [] [] = Unit {0}
LeAll [] (b ∷ bs) = ⊥
LeAll (a ∷ al) [] = ⊥
LeAll (a ∷ al) (b ∷ bs) = Le a b × LeAll al bs

sum_b_mono : (al bs : List Bound) → LeAll al bs → Le (sum_bound al) (sum_bound bs)
sum_b_mono [] [] h = le_self (sum_bound [])
sum_b_mono [] (b ∷ bs) h = absurd h
sum_b_mono (a ∷ al) [] h = absurd h
sum_b_mono (a ∷ al) (b ∷ bs) h = add_b_mono h.0 (sum_b_mono al bs h.1)

product_b_mono : (al bs : List Bound) → LeAll al bs → Le (product_bound al) (product_bound bs)
product_b_mono [] [] h = le_self unit_bound
product_b_mono [] (b ∷ bs) h = absurd h
product_b_mono (a ∷ al) [] h = absurd h
product_b_mono (a ∷ al) (b ∷ bs) h = mul_b_mono h.0 (product_b_mono al bs h.1)

first_b_mono : (al bs : List Bound) → LeAll al bs → Le (first_bound al) (first_bound bs)
first_b_mono [] [] h = le_self unit_bound
first_b_mono [] (b ∷ bs) h = absurd h
first_b_mono (a ∷ al) [] h = absurd h
first_b_mono (a ∷ al) (b ∷ bs) h = h.0

cond_mono : (c : Bool) {a a' b b' : Bound} → Le a a' → Le b b' → Le (cond c a b) (cond c a' b')
cond_mono true x y = x
cond_mono false x y = y

pub node_bound_mono : (k p : ℕ) (al bs : List Bound) → LeAll al bs → Le (node_bound k p al) (node_bound k p bs)
node_bound_mono k p al bs h =
    cond_mono (eqb k 1) (le_self (constant_bound (of_bits binary64 p)))
    (cond_mono (eqb k 2 || eqb k 3) (sum_b_mono al bs h)
    (cond_mono (eqb k 4) (product_b_mono al bs h)
    (cond_mono (eqb k 8) (first_b_mono al bs h) (le_self unit_bound))))

-- W is at least 1
abbrev pub Heavy : Bound → Type 0
Heavy b = 2 ^ b.under ≤ b.top

heavy_law : (a b A B : ℕ) → A ≤ a → A * B ≤ a * B + b * A
heavy_law a b A B h = omega (arith, mul-le-mul_right B h)

pub heavy_add : (a b : Bound) → Heavy a → Heavy (add_bound a b)
heavy_add a b h = rw (pow-add 2 a.under b.under) (heavy_law a.top b.top (2 ^ a.under) (2 ^ b.under) h)

pub heavy_mul : (a b : Bound) → Heavy a → Heavy b → Heavy (mul_bound a b)
heavy_mul a b h g = rw (pow-add 2 a.under b.under) (mul-le-mul h g)

-- 0 weighs no more than anything
pub unit_le : (b : Bound) → Heavy b → Le unit_bound b
unit_le b h = record { fewer = omega arith; lighter = omega (arith, h) }

-- ---- sums and products of bounds, in any order
bnd_eq : {b c t u k j : ℕ} → b ≡ c → t ≡ u → k ≡ j → bound_by b t k ≡ bound_by c u j
bnd_eq x y z = λ i. bound_by (x i) (y i) (z i)

pub mul_b_unit : (a : Bound) → mul_bound a unit_bound ≡ a
mul_b_unit a = bnd_eq (add-zero a.bits) (mul-one a.top) (add-zero a.under)

pub mul_b_comm : (a b : Bound) → mul_bound a b ≡ mul_bound b a
mul_b_comm a b = bnd_eq (add_comm a.bits b.bits) (mul_comm a.top b.top) (add_comm a.under b.under)

pub mul_b_assoc : (a b c : Bound) → mul_bound (mul_bound a b) c ≡ mul_bound a (mul_bound b c)
mul_b_assoc a b c = bnd_eq (add_assoc a.bits b.bits c.bits) (mul_assoc a.top b.top c.top) (add_assoc a.under b.under c.under)

pub add_b_zero : (a : Bound) → add_bound a (bound_by 0 0 0) ≡ a
add_b_zero a = bnd_eq (omega arith) (omega (arith, zero-mul (2 ^ a.under))) (add-zero a.under)

pub add_b_comm : (a b : Bound) → add_bound a b ≡ add_bound b a
add_b_comm a b = bnd_eq (omega arith) (add_comm (a.top * 2 ^ b.under) (b.top * 2 ^ a.under)) (add_comm a.under b.under)

assoc_law : (p q r A B C : ℕ) → (p * B + q * A) * C + r * (A * B) ≡ p * (B * C) + (q * C + r * B) * A
assoc_law p q r A B C =
    omega (arith, add-mul (p * B) (q * A) C, add-mul (q * C) (r * B) A, mul_assoc p B C, mul_right_comm q A C, mul_assoc r B A, mul_comm B A)

pub add_b_assoc : (a b c : Bound) → add_bound (add_bound a b) c ≡ add_bound a (add_bound b c)
add_b_assoc a b c = bnd_eq (omega arith)
    (rw (pow-add 2 a.under b.under, pow-add 2 b.under c.under) (assoc_law a.top b.top c.top (2 ^ a.under) (2 ^ b.under) (2 ^ c.under)))
    (add_assoc a.under b.under c.under)

mul_heavy_law : (a b A B : ℕ) → A ≤ a → b * (A * B) ≤ a * b * B
mul_heavy_law a b A B h = omega (arith, mul-le-mul_right (b * B) h, mul_assoc a b B, mul_assoc b A B, mul-mul-mul_comm b A B 1, mul_right_comm b A B, mul_comm A (b * B), mul_assoc b B A)

pub le_mul_right : (a b : Bound) → Heavy a → Le b (mul_bound a b)
le_mul_right a b h = record { fewer = omega arith; lighter = rw (pow-add 2 a.under b.under) (mul_heavy_law a.top b.top (2 ^ a.under) (2 ^ b.under) h) }
