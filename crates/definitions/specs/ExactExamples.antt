-- The exact kind at its limits ("Every reachable node has W·2^P at most 2^53"): for each clause a formula of the exact kind, and a
-- neighbour that is not.
use Rattle.std.specs.Prelude.{ℕ, ◌+◌, ◌-◌, ◌*◌, ◌^◌, ◌≤◌, ◌≡◌, refl, Bool, true, false, List, [], ◌∷◌, map, T, ℤ, pos, negsuc, Float}
use Rattle.std.proofs.Math.Decide.{dec_le}
use Rattle.std.specs.Float.{fin, binary64}
use Rattle.std.specs.Float.Ieee.{of_bits, up, down}
use Rattle.definitions.specs.Node.{variable_kind, constant_kind, add_kind, sub_kind, mul_kind, div_kind, pow_kind, mod_kind, neg_kind, function_kind, control_kind, select_control}
use Rattle.definitions.specs.Formula.{Tree, tree, Forest, nil, cons}
use Rattle.definitions.specs.Value.{WholeAt}
use Rattle.definitions.specs.Exact.{Exact, ExactAll, constant_bound, exact_kind, bound}

-- ---- whether a formula is of the exact kind, decided
abbrev decide_test : (b : Bool) → Dec (T b)
decide_test true = yes tt
decide_test false = no (λ x. x)

abbrev decide_pair : {A B : Type 0} → Dec A → Dec B → Dec (A × B)
decide_pair (yes a) (yes b) = yes (a, b)
decide_pair (yes a) (no n) = no (λ x. n x.1)
decide_pair (no n) b = no (λ x. n x.0)

abbrev decide_triple : {A B C : Type 0} → Dec A → Dec B → Dec C → Dec (A × B × C)
decide_triple (yes a) (yes b) (yes c) = yes (a, b, c)
decide_triple (yes a) (yes b) (no n) = no (λ x. n x.2)
decide_triple (yes a) (no n) c = no (λ x. n x.1)
decide_triple (no n) b c = no (λ x. n x.0)

unfoldable mutual
  unfolding Exact dec_le

  pub decide : (t : Tree) → Dec (Exact t)
  decide (tree k p f c) = decide_triple (dec_le _ _) (decide_test (exact_kind k p)) (decide_all c)

  pub decide_all : (c : Forest) → Dec (ExactAll c)
  decide_all nil = yes tt
  decide_all (cons t c) = decide_pair (decide t) (decide_all c)

abbrev is_yes : {A : Type 0} → Dec A → Bool
is_yes (yes a) = true
is_yes (no n) = false

abbrev is_no : {A : Type 0} → Dec A → Bool
is_no (yes a) = false
is_no (no n) = true

of_yes : {A : Type 0} (d : Dec A) → T (is_yes d) → A
of_yes (yes a) t = a
of_yes (no n) t = absurd t

of_no : {A : Type 0} (d : Dec A) → T (is_no d) → A → ⊥
of_no (yes a) t = absurd t
of_no (no n) t = n

-- the first is of the exact kind, the second is not
pub record OnlyFirst (first second : Tree) : Type 0 where
  pub exact : Exact first
  pub not_exact : Exact second → ⊥

decided : {a b : Tree} → T (is_yes (decide a)) → T (is_no (decide b)) → OnlyFirst a b
decided {a} {b} s t = record { exact = of_yes (decide a) s; not_exact = of_no (decide b) t }

-- ---- formulas

-- the binary64 bits of 2 ^ n, and of 2 ^ -n; bits one higher are those of the next number
abbrev power : ℕ → ℕ
power n = (1023 + n) * 2 ^ 52

abbrev inverse : ℕ → ℕ
inverse n = (1023 - n) * 2 ^ 52

-- 2^53, 2^53 + 2, 2^53 - 1, 2^52 + 1 and 2^-53
pub numbers_are : map (of_bits binary64) (power 53 ∷ (power 53 + 1) ∷ (power 53 - 1) ∷ (power 52 + 1) ∷ inverse 53 ∷ [])
    ≡ fin false 1 (pos 53) ∷ fin false (2 ^ 52 + 1) (pos 1) ∷ fin false (2 ^ 53 - 1) (pos 0) ∷ fin false (2 ^ 52 + 1) (pos 0) ∷ fin false 1 (negsuc 52) ∷ []
unfolding of_bits
numbers_are = refl

abbrev constant : ℕ → Tree
constant bits = tree constant_kind bits 0 nil

abbrev x : Tree
x = tree variable_kind 7 0 nil

abbrev two : Tree
two = constant (power 1)

abbrev half : Tree
half = constant (inverse 1)

abbrev unary : ℕ → Tree → Tree
unary k a = tree k 0 0 (cons a nil)

abbrev binary : ℕ → Tree → Tree → Tree
binary k a b = tree k 0 0 (cons a (cons b nil))

abbrev sum : Tree → Tree → Tree
sum a b = binary add_kind a b

abbrev product : Tree → Tree → Tree
product a b = binary mul_kind a b

abbrev sum_of_four : Tree → Tree → Tree → Tree → Tree
sum_of_four a b c d = tree add_kind 0 0 (cons a (cons b (cons c (cons d nil))))

abbrev select : Tree → Tree → Tree → Tree
select a b c = tree control_kind select_control 0 (cons a (cons b (cons c nil)))

-- ---- constants: W is max(1, |c|), P the fraction bits

-- 2^53 and 2^53 + 2, and their opposites
pub greatest : OnlyFirst (constant (power 53)) (constant (power 53 + 1))
unfolding decide of_bits bound
greatest = decided tt tt

pub least : OnlyFirst (constant (2 ^ 63 + power 53)) (constant (2 ^ 63 + power 53 + 1))
unfolding decide of_bits bound
least = decided tt tt

-- 2^-53 and 2^-54
pub finest : OnlyFirst (constant (inverse 53)) (constant (inverse 54))
unfolding decide of_bits bound
finest = decided tt tt

-- 102/1024 and the binary64 number nearest 0.1, which has 55 fraction bits
pub near_a_tenth : OnlyFirst (constant 0x3FB9800000000000) (constant 0x3FB999999999999A)
unfolding decide of_bits bound
near_a_tenth = decided tt tt

-- "Attendants set the coefficients at the basin, in steps of 1/1024" (00): a constant whose 1024-fold is whole has P of at most 10, and it
-- is of the exact kind if its magnitude is at most 2^43. Proved in proofs/Coefficients.
abbrev pub Coefficients : Type 0
Coefficients =
    (bits : ℕ) (b : Bool) (m : ℕ) (e : ℤ) → of_bits binary64 bits ≡ fin b m e → WholeAt m e 10
    → ((constant_bound (of_bits binary64 bits)).bits ≤ 10) × (m * up e ≤ 2 ^ 43 * down e → Exact (constant bits))

-- "constants finite": the zeros are, the infinities are not
pub zero_infinity : OnlyFirst (constant 0) (constant 0x7FF0000000000000)
unfolding decide of_bits bound
zero_infinity = decided tt tt

pub minus_zero_infinity : OnlyFirst (constant (2 ^ 63)) (constant 0xFFF0000000000000)
unfolding decide of_bits bound
minus_zero_infinity = decided tt tt

-- ---- Add: the greatest P and the sum of W

-- 2^52 + 2^52 and 2^52 + (2^52 + 1)
pub sum_of_two : OnlyFirst (sum (constant (power 52)) (constant (power 52))) (sum (constant (power 52)) (constant (power 52 + 1)))
unfolding decide of_bits bound
sum_of_two = decided tt tt

-- x + (2^53 - 1) and x + 2^53: a variable's W is 1
pub sum_with_variable : OnlyFirst (sum x (constant (power 53 - 1))) (sum x (constant (power 53)))
unfolding decide of_bits bound
sum_with_variable = decided tt tt

-- four times 2^51, and three times with 2^51 + 1
pub sum_of_four_lem : OnlyFirst (sum_of_four (constant (power 51)) (constant (power 51)) (constant (power 51)) (constant (power 51))) (sum_of_four (constant (power 51)) (constant (power 51)) (constant (power 51)) (constant (power 51 + 2)))
unfolding decide of_bits bound
sum_of_four_lem = decided tt tt

-- 2^-52 + 2^-52 and 2^-52 + 2^-53: each W is 1
pub sum_of_fractions : OnlyFirst (sum (constant (inverse 52)) (constant (inverse 52))) (sum (constant (inverse 52)) (constant (inverse 53)))
unfolding decide of_bits bound
sum_of_fractions = decided tt tt

-- ---- Sub: as Add, though 2^52 - (2^52 + 1) is small
pub difference : OnlyFirst (binary sub_kind (constant (power 52)) (constant (power 52))) (binary sub_kind (constant (power 52)) (constant (power 52 + 1)))
unfolding decide of_bits bound
difference = decided tt tt

pub difference_of_fractions : OnlyFirst (binary sub_kind (constant (inverse 52)) (constant (inverse 52))) (binary sub_kind (constant (inverse 53)) (constant (inverse 52)))
unfolding decide of_bits bound
difference_of_fractions = decided tt tt

-- ---- Mul: the sum of P and the product of W

-- 2^-26 * 2^-27 and 2^-27 * 2^-27
pub product_of_fractions : OnlyFirst (product (constant (inverse 26)) (constant (inverse 27))) (product (constant (inverse 27)) (constant (inverse 27)))
unfolding decide of_bits bound
product_of_fractions = decided tt tt

-- 2^26 * 2^27 and 2^27 * 2^27
pub product_of_powers : OnlyFirst (product (constant (power 26)) (constant (power 27))) (product (constant (power 27)) (constant (power 27)))
unfolding decide of_bits bound
product_of_powers = decided tt tt

-- 1/2 * 2^52 and 1/2 * 2^53: W of 1/2 is 1
pub half_of_power : OnlyFirst (product half (constant (power 52))) (product half (constant (power 53)))
unfolding decide of_bits bound
half_of_power = decided tt tt

-- ---- Neg: the same P and W
pub opposite_in_sum : OnlyFirst (sum (unary neg_kind (constant (power 52))) (constant (power 52))) (sum (unary neg_kind (constant (power 52))) (constant (power 52 + 1)))
unfolding decide of_bits bound
opposite_in_sum = decided tt tt

pub opposite_in_product : OnlyFirst (product (unary neg_kind (constant (inverse 26))) (constant (inverse 27))) (product (unary neg_kind (constant (inverse 27))) (constant (inverse 27)))
unfolding decide of_bits bound
opposite_in_product = decided tt tt

-- ---- Mod, functions and controls: P is 0 and W is 1, whatever stands below; what stands below is of the exact kind
pub remainder_in_sum : OnlyFirst (sum (binary mod_kind (constant (power 53)) two) (constant (power 53 - 1))) (sum (binary mod_kind (constant (power 53)) two) (constant (power 53)))
unfolding decide of_bits bound
remainder_in_sum = decided tt tt

pub function_in_product : OnlyFirst (product (unary function_kind (constant (inverse 53))) (constant (inverse 53))) (product (constant (inverse 53)) (constant (inverse 53)))
unfolding decide of_bits bound
function_in_product = decided tt tt

pub below_remainder : OnlyFirst (binary mod_kind (constant (power 53)) two) (binary mod_kind (constant (power 53 + 1)) two)
unfolding decide of_bits bound
below_remainder = decided tt tt

pub below_function : OnlyFirst (unary function_kind (constant (power 53))) (unary function_kind (constant (power 53 + 1)))
unfolding decide of_bits bound
below_function = decided tt tt

pub below_control : OnlyFirst (select x (constant (power 53)) (constant (inverse 53))) (select x (constant (power 53)) (constant (inverse 54)))
unfolding decide of_bits bound
below_control = decided tt tt

-- ---- "no Div or Pow reachable"

-- x * (1/2) and x / 2
pub quotient : OnlyFirst (product x half) (binary div_kind x two)
unfolding decide of_bits bound
quotient = decided tt tt

-- x * x and x^2
pub square : OnlyFirst (product x x) (binary pow_kind x two)
unfolding decide of_bits bound
square = decided tt tt

-- the same below a function
pub below_function_quotient : OnlyFirst (unary function_kind (product x half)) (unary function_kind (binary div_kind x two))
unfolding decide of_bits bound
below_function_quotient = decided tt tt
