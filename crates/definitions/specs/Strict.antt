-- The strict patterns: "A strict walk has only these patterns, which name all operands of the node, each firing wherever it fits: x
-- + (-0.0), (-0.0) + x, x - (+0.0), 1·x, x·1, x/1, double Neg, and folding of two constants by +, -, ·, / where not NaN and not by zero."
use Rattle.std.specs.Prelude.{ℕ, Bool, ◌&&◌, cond, ◌≡◌, refl, List, [], ◌∷◌, eqb}
use Rattle.std.proofs.Math.Option.{Option, none, some}
use Rattle.std.specs.Float.Ieee.{of_bits, eq}
use Rattle.definitions.specs.Node.{Node, node, at, constant_kind, add_kind, sub_kind, mul_kind, div_kind, neg_kind}
use Rattle.definitions.specs.Intern.{Lent, Built, built}
use Rattle.definitions.specs.Patterns.{constant_value, or_else, when, neg_double, binary64_result, fold, constant_fold}

-- ---- identities

-- the bits of -0.0, +0.0 and 1.0
abbrev pub minus_zero_bits : ℕ
minus_zero_bits = 0x8000000000000000

abbrev pub plus_zero_bits : ℕ
plus_zero_bits = 0

abbrev pub one_bits : ℕ
one_bits = 0x3FF0000000000000

-- a constant is told by its bits, so that +0.0 is not -0.0
abbrev pub is_constant_of : ℕ → Node → Bool
is_constant_of b n = eqb n.kind constant_kind && eqb n.payload b

-- x + (-0.0) and (-0.0) + x
unfoldable pub strict_sum : List Node → ℕ → ℕ → Option Built
strict_sum ns a b =
    or_else (when (is_constant_of minus_zero_bits (at ns b)) (built ns a))
    (when (is_constant_of minus_zero_bits (at ns a)) (built ns b))

-- x - (+0.0)
unfoldable pub strict_difference : List Node → ℕ → ℕ → Option Built
strict_difference ns a b = when (is_constant_of plus_zero_bits (at ns b)) (built ns a)

-- 1·x and x·1
unfoldable pub strict_product : List Node → ℕ → ℕ → Option Built
strict_product ns a b =
    or_else (when (is_constant_of one_bits (at ns a)) (built ns b))
    (when (is_constant_of one_bits (at ns b)) (built ns a))

-- x/1
unfoldable pub strict_quotient : List Node → ℕ → ℕ → Option Built
strict_quotient ns a b = when (is_constant_of one_bits (at ns b)) (built ns a)

unfoldable pub strict_identities : List Node → ℕ → ℕ → ℕ → Option Built
unfolding strict_sum strict_difference strict_product strict_quotient
strict_identities ns k a b =
    cond (eqb k add_kind) (strict_sum ns a b)
    (cond (eqb k sub_kind) (strict_difference ns a b)
    (cond (eqb k mul_kind) (strict_product ns a b)
    (cond (eqb k div_kind) (strict_quotient ns a b) none)))

-- ---- all of them

-- the pattern that fits a kind over new children, all of which it names: none on an Add or Mul of one, three or four. `constant_fold`
-- declines a NaN and either zero as divisor.
unfoldable pub strict_apply : Lent → List Node → ℕ → List ℕ → Option Built
unfolding strict_identities constant_fold
strict_apply l ns k [] = none
strict_apply l ns k (a ∷ []) = cond (eqb k neg_kind) (neg_double ns a) none
strict_apply l ns k (a ∷ b ∷ []) = or_else (strict_identities ns k a b) (constant_fold l ns k a b)
strict_apply l ns k (a ∷ b ∷ c ∷ r) = none

-- 0.5 and a zero
abbrev half_and_zero : ℕ → List Node
half_and_zero zero_bits = node constant_kind 0x3FE0000000000000 0 [] ∷ node constant_kind zero_bits 0 [] ∷ []

-- "not by zero", of either sign
pub not_by_zero : (l : Lent) → (strict_apply l (half_and_zero plus_zero_bits) div_kind (0 ∷ 1 ∷ []) ≡ none)
    × (strict_apply l (half_and_zero minus_zero_bits) div_kind (0 ∷ 1 ∷ []) ≡ none)
unfolding strict_apply strict_identities constant_fold constant_value fold binary64_result eq of_bits
not_by_zero l = (refl, refl)
