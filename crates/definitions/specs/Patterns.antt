-- The patterns, first that fits: identities, then folding, then merging, in the order and under the names of patterns.rs.
use Rattle.std.specs.Prelude.{ℕ, Bool, true, false, not, ◌&&◌, ◌||◌, cond, List, [], ◌∷◌, eqb, pos, Float}
use Rattle.std.proofs.Math.Option.{Option, none, some}
use Rattle.std.specs.Float.{nan, inf, fin, binary64}
use Rattle.std.specs.Float.Ieee.{of_bits, to_bits, is_nan, add, sub, mul, div, eq, lt}
use Rattle.definitions.specs.Node.{Node, node, at, constant_kind, add_kind, sub_kind, mul_kind, div_kind, pow_kind, neg_kind, both_flags}
use Rattle.definitions.specs.Intern.{Lent, Built, built, then, intern}

-- ---- constants

-- 0.0 and 1.0
abbrev pub zero64 : Float
zero64 = fin false 0 (pos 0)

abbrev pub one64 : Float
one64 = fin false 1 (pos 0)

-- the number of a constant node
unfoldable pub constant_value : Node → Option Float
unfolding of_bits
constant_value n = cond (eqb n.kind constant_kind) (some (of_bits binary64 n.payload)) none

-- "Zero tests accept -0.0": equality of binary64 does
abbrev pub is_zero : Option Float → Bool
is_zero none = false
is_zero (some x) = eq x zero64

abbrev pub is_one : Option Float → Bool
is_one none = false
is_one (some x) = eq x one64

abbrev pub finite : Float → Bool
finite nan = false
finite (inf s) = false
finite (fin s m e) = true

abbrev pub is_finite : Option Float → Bool
is_finite none = false
is_finite (some x) = finite x

abbrev pub is_positive : Option Float → Bool
is_positive none = false
is_positive (some x) = lt zero64 x

-- ---- what patterns build

-- a constant
unfoldable pub intern_constant : Lent → List Node → Float → Built
unfolding intern to_bits
intern_constant l ns x = intern l ns (node constant_kind (to_bits binary64 x) 0 [])

-- the constructors `add` and `mul`, which "give flags 3"
unfoldable pub intern_add : Lent → List Node → ℕ → ℕ → Built
unfolding intern
intern_add l ns a b = intern l ns (node add_kind 0 both_flags (a ∷ b ∷ []))

unfoldable pub intern_mul : Lent → List Node → ℕ → ℕ → Built
unfolding intern
intern_mul l ns a b = intern l ns (node mul_kind 0 both_flags (a ∷ b ∷ []))

-- the first that fits
abbrev pub or_else : Option Built → Option Built → Option Built
or_else none y = y
or_else (some m) y = some m

abbrev pub when : Bool → Built → Option Built
when true m = some m
when false m = none

-- ---- identities

-- x + 0 and 0 + x
unfoldable pub add_zero : Lent → List Node → ℕ → ℕ → Option Built
unfolding constant_value eq
add_zero l ns a b =
    or_else (when (is_zero (constant_value (at ns a))) (built ns b))
    (when (is_zero (constant_value (at ns b))) (built ns a))

-- x - 0, and x - x of one id
unfoldable pub sub_identity : Lent → List Node → ℕ → ℕ → Option Built
unfolding constant_value eq intern_constant
sub_identity l ns a b =
    or_else (when (is_zero (constant_value (at ns b))) (built ns a))
    (when (eqb a b) (intern_constant l ns zero64))

-- 0 * c and c * 0 for a finite constant c, then 1 * x and x * 1
unfoldable pub mul_identity : Lent → List Node → ℕ → ℕ → Option Built
unfolding constant_value eq intern_constant
mul_identity l ns a b =
    let x = constant_value (at ns a) in
    let y = constant_value (at ns b) in
    or_else (when ((is_zero x && is_finite y) || (is_zero y && is_finite x)) (intern_constant l ns zero64))
    (or_else (when (is_one x) (built ns b)) (when (is_one y) (built ns a)))

-- x / 1, 0 / x, and c / c of one id for a constant c that is not zero
unfoldable pub div_identity : Lent → List Node → ℕ → ℕ → Option Built
unfolding constant_value eq intern_constant
div_identity l ns a b =
    let x = constant_value (at ns a) in
    or_else (when (is_one (constant_value (at ns b))) (built ns a))
    (or_else (when (is_zero x) (intern_constant l ns zero64))
    (when (eqb a b && (eqb (at ns a).kind constant_kind && not (is_zero x))) (intern_constant l ns one64)))

-- x ^ 0, x ^ 1, 1 ^ x, and 0 ^ c for a positive constant c
unfoldable pub pow_identity : Lent → List Node → ℕ → ℕ → Option Built
unfolding constant_value eq lt intern_constant
pow_identity l ns a b =
    let x = constant_value (at ns a) in
    let y = constant_value (at ns b) in
    or_else (when (is_zero y) (intern_constant l ns one64))
    (or_else (when (is_one y) (built ns a))
    (or_else (when (is_one x) (intern_constant l ns one64))
    (when (is_zero x && is_positive y) (intern_constant l ns zero64))))

abbrev pub only_child : List Node → List ℕ → Option Built
only_child ns [] = none
only_child ns (a ∷ []) = some (built ns a)
only_child ns (a ∷ b ∷ r) = none

-- --x: the child of a Neg that is a Neg itself
abbrev pub neg_double : List Node → ℕ → Option Built
neg_double ns a = cond (eqb (at ns a).kind neg_kind) (only_child ns (at ns a).children) none

-- ---- folding

-- "Sums fold as binary64, each single addition rounded once, ties to even; likewise Sub, Mul, Div (not by zero)." No other kind folds.
unfoldable pub binary64_result : ℕ → Float → Float → Option Float
unfolding add sub mul div eq
binary64_result k x y =
    cond (eqb k add_kind) (some (add binary64 x y))
    (cond (eqb k sub_kind) (some (sub binary64 x y))
    (cond (eqb k mul_kind) (some (mul binary64 x y))
    (cond (eqb k div_kind && not (eq y zero64)) (some (div binary64 x y)) none)))

-- a fold to NaN is declined
abbrev pub unless_nan : Option Float → Option Float
unless_nan none = none
unless_nan (some z) = cond (is_nan z) none (some z)

unfoldable pub fold : ℕ → Float → Float → Option Float
unfolding binary64_result is_nan
fold k x y = unless_nan (binary64_result k x y)

abbrev pub folded : Lent → List Node → Option Float → Option Built
folded l ns none = none
folded l ns (some z) = some (intern_constant l ns z)

abbrev pub fold_both : Lent → List Node → ℕ → Option Float → Option Float → Option Built
fold_both l ns k none y = none
fold_both l ns k (some x) none = none
fold_both l ns k (some x) (some y) = folded l ns (fold k x y)

-- two constants
unfoldable pub constant_fold : Lent → List Node → ℕ → ℕ → ℕ → Option Built
unfolding constant_value fold intern_constant
constant_fold l ns k a b = fold_both l ns k (constant_value (at ns a)) (constant_value (at ns b))

-- ---- merging

abbrev pub pair : List ℕ → Option (ℕ × ℕ)
pair [] = none
pair (a ∷ []) = none
pair (a ∷ b ∷ []) = some (a, b)
pair (a ∷ b ∷ c ∷ r) = none

-- the children of a node of kind k that has two
abbrev pub pair_of : ℕ → Node → Option (ℕ × ℕ)
pair_of k n = cond (eqb n.kind k) (pair n.children) none

-- the folded constant, and then a product with p on its left or q on its right
abbrev pub mul_left : Lent → List Node → ℕ → Option Float → Option Built
mul_left l ns q none = none
mul_left l ns q (some z) = some (then (intern_constant l ns z) (λ ms i. intern_mul l ms i q))

abbrev pub mul_right : Lent → List Node → ℕ → Option Float → Option Built
mul_right l ns p none = none
mul_right l ns p (some z) = some (then (intern_constant l ns z) (λ ms i. intern_mul l ms p i))

-- the constant c beside the product of p and q, one of which is a constant d: the left one is taken first
abbrev pub mul_merged : Lent → List Node → Float → ℕ → ℕ → Option Float → Option Float → Option Built
mul_merged l ns c p q (some d) y = mul_left l ns q (fold mul_kind d c)
mul_merged l ns c p q none (some d) = mul_right l ns p (fold mul_kind d c)
mul_merged l ns c p q none none = none

abbrev pub mul_merge : Lent → List Node → Option Float → Option (ℕ × ℕ) → Option Built
mul_merge l ns none pq = none
mul_merge l ns (some c) none = none
mul_merge l ns (some c) (some pq) = mul_merged l ns c pq.0 pq.1 (constant_value (at ns pq.0)) (constant_value (at ns pq.1))

-- (d * x) * c and (x * d) * c, then c * (d * x) and c * (x * d)
unfoldable pub mul_coef_merge : Lent → List Node → ℕ → ℕ → Option Built
unfolding constant_value fold intern_constant intern_mul
mul_coef_merge l ns a b =
    or_else (mul_merge l ns (constant_value (at ns b)) (pair_of mul_kind (at ns a)))
    (mul_merge l ns (constant_value (at ns a)) (pair_of mul_kind (at ns b)))

-- the folded constant, and then a sum with p on its left
abbrev pub add_right : Lent → List Node → ℕ → Option Float → Option Built
add_right l ns p none = none
add_right l ns p (some z) = some (then (intern_constant l ns z) (λ ms i. intern_add l ms p i))

abbrev pub add_merged : Lent → List Node → Float → ℕ → ℕ → Option Float → Option Float → Option Built
add_merged l ns c p q (some d) y = add_right l ns q (fold add_kind d c)
add_merged l ns c p q none (some d) = add_right l ns p (fold add_kind d c)
add_merged l ns c p q none none = none

abbrev pub add_merge : Lent → List Node → Option Float → Option (ℕ × ℕ) → Option Built
add_merge l ns none pq = none
add_merge l ns (some c) none = none
add_merge l ns (some c) (some pq) = add_merged l ns c pq.0 pq.1 (constant_value (at ns pq.0)) (constant_value (at ns pq.1))

-- (d + x) + c and (x + d) + c, both to x + (d + c); c + (d + x) stays
unfoldable pub add_coef_merge : Lent → List Node → ℕ → ℕ → Option Built
unfolding constant_value fold intern_constant intern_add
add_coef_merge l ns a b = add_merge l ns (constant_value (at ns b)) (pair_of add_kind (at ns a))

-- ---- all of them

unfoldable pub identities : Lent → List Node → ℕ → ℕ → ℕ → Option Built
unfolding add_zero sub_identity mul_identity div_identity pow_identity
identities l ns k a b =
    cond (eqb k add_kind) (add_zero l ns a b)
    (cond (eqb k sub_kind) (sub_identity l ns a b)
    (cond (eqb k mul_kind) (mul_identity l ns a b)
    (cond (eqb k div_kind) (div_identity l ns a b)
    (cond (eqb k pow_kind) (pow_identity l ns a b) none))))

unfoldable pub merges : Lent → List Node → ℕ → ℕ → ℕ → Option Built
unfolding mul_coef_merge add_coef_merge
merges l ns k a b = cond (eqb k mul_kind) (mul_coef_merge l ns a b) (cond (eqb k add_kind) (add_coef_merge l ns a b) none)

-- the first pattern that fits a kind over new children
unfoldable pub try_apply : Lent → List Node → ℕ → List ℕ → Option Built
unfolding identities constant_fold merges
try_apply l ns k [] = none
try_apply l ns k (a ∷ []) = cond (eqb k neg_kind) (neg_double ns a) none
try_apply l ns k (a ∷ b ∷ []) = or_else (identities l ns k a b) (or_else (constant_fold l ns k a b) (merges l ns k a b))
try_apply l ns k (a ∷ b ∷ c ∷ r) = none
