-- The value of a formula: whole numbers over powers of two.
use Rattle.std.specs.Prelude.{ℕ, suc, ◌*◌, ◌^◌, ◌≤◌, ◌≡◌, Bool, true, false, cond, List, [], ◌∷◌, ℤ, pos, negsuc, eqb, Float}
use Rattle.std.specs.Float.{nan, inf, fin, binary64}
use Rattle.std.specs.Float.Ieee.{of_bits, up, down}
use Rattle.definitions.specs.Node.{variable_kind, constant_kind, add_kind, sub_kind, mul_kind, neg_kind}
use Rattle.definitions.specs.Formula.{Tree, tree, Forest, nil, cons}
use Rattle.definitions.specs.Dyadic.{Fraction, fraction, Dyadic, dyadic, plus, times, opposite, zero_value, one_value}

-- The fraction bits of a binary64 number m * 2 ^ e, which lib.Ieee writes with m odd, or with m = 0 and e = 0: `down e` is 2 ^ fraction_bits
-- e.
abbrev pub fraction_bits : ℤ → ℕ
fraction_bits (pos k) = 0
fraction_bits (negsuc k) = suc k

-- m * 2 ^ e * 2 ^ s is a whole number
pub record WholeAt (m : ℕ) (e : ℤ) (s : ℕ) : Type 0 where
  pub whole : ℕ
  pub is : m * up e * 2 ^ s ≡ whole * down e

-- what it is believed for, "the least s from 0 up making c * 2 ^ s whole"; proved in proofs/FractionBits
abbrev pub LeastShift : Type 0
LeastShift =
    (bits : ℕ) (b : Bool) (m : ℕ) (e : ℤ) → of_bits binary64 bits ≡ fin b m e
    → WholeAt m e (fraction_bits e) × ((s : ℕ) → WholeAt m e s → fraction_bits e ≤ s)

abbrev pub signed : Bool → ℕ → ℕ → Fraction
signed false a k = fraction a 0 k
signed true a k = fraction 0 a k

-- "a constant its own number, both zeros 0"; an infinity is in no formula of the exact kind, a NaN in no store
unfoldable pub number : Float → Dyadic
number nan = zero_value
number (inf s) = zero_value
number (fin s m e) = dyadic (signed s (m * up e) (fraction_bits e))

-- "a variable has any value, one for each symbol"; "functions, controls and Mod read as anything giving equal values for the same kind, the
-- same payload and equal arguments in order"; Div and Pow, which are in no formula of the exact kind, are read with them
pub record Reading : Type 0 where
  pub variables : ℕ → Dyadic
  pub functions : ℕ → ℕ → List Dyadic → Dyadic

abbrev pub sum_of : List Dyadic → Dyadic
sum_of [] = zero_value
sum_of (x ∷ xs) = plus x (sum_of xs)

abbrev pub product_of : List Dyadic → Dyadic
product_of [] = one_value
product_of (x ∷ xs) = times x (product_of xs)

abbrev pub first_of : List Dyadic → Dyadic
first_of [] = zero_value
first_of (x ∷ xs) = x

abbrev pub difference_of : List Dyadic → Dyadic
difference_of [] = zero_value
difference_of (x ∷ xs) = plus x (opposite (first_of xs))

-- "Add is the sum, Sub the first minus the second, Mul the product, Neg the opposite"; flags do not enter
abbrev pub apply : Reading → ℕ → ℕ → List Dyadic → Dyadic
apply r k p vs =
    cond (eqb k variable_kind) (r.variables p)
    (cond (eqb k constant_kind) (number (of_bits binary64 p))
    (cond (eqb k add_kind) (sum_of vs)
    (cond (eqb k sub_kind) (difference_of vs)
    (cond (eqb k mul_kind) (product_of vs)
    (cond (eqb k neg_kind) (opposite (first_of vs))
    (r.functions k p vs))))))

-- the value of a formula under a reading
unfoldable mutual
  pub value_of : Reading → Tree → Dyadic
  value_of r (tree k p f c) = apply r k p (values_of r c)

  pub values_of : Reading → Forest → List Dyadic
  values_of r nil = []
  values_of r (cons t c) = value_of r t ∷ values_of r c
