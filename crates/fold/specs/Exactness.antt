-- Where folding is exact: the result is, where the condition W·2^P ≤ 2^53 holds of the two constants and the operator.
use Rattle.std.specs.Prelude.{ℕ, ◌≡◌, false, cond, [], ◌∷◌, ◌⊎◌, T, eqb, Option, Some, None}
use Rattle.std.specs.Float.{binary64}
use Rattle.std.specs.Float.Ieee.{nan_bits}
use Rattle.definitions.specs.Node.{add_kind, sub_kind, mul_kind}
use Rattle.definitions.specs.Patterns as Patterns
use Rattle.definitions.specs.Dyadic.{Dyadic, plus, times, opposite}
use Rattle.definitions.specs.Value.{number}
use Rattle.definitions.specs.Exact.{constant_bound, node_bound, Within}
use Rattle.fold.specs.Fold.{value_of, stored, finite}

-- "Add is the sum, Sub the first minus the second, Mul the product"
abbrev pub exact_result : ℕ → Dyadic → Dyadic → Dyadic
exact_result k x y = cond (eqb k add_kind) (plus x y) (cond (eqb k sub_kind) (plus x (opposite y)) (times x y))

-- an Add, Sub or Mul over two finite constants that has W·2^P at most 2^53
pub record Small (k a b : ℕ) : Type 0 where
  pub kind : (k ≡ add_kind) ⊎ ((k ≡ sub_kind) ⊎ (k ≡ mul_kind))
  pub left : T (finite (value_of a))
  pub right : T (finite (value_of b))
  pub within : Within (node_bound k 0 (constant_bound (value_of a) ∷ constant_bound (value_of b) ∷ []))

-- a pattern holds the exact result, and the condition holds of it again
pub record Exactly (k a b r : ℕ) : Type 0 where
  pub result : number (value_of r) ≡ exact_result k (number (value_of a)) (number (value_of b))
  pub finite : T (finite (value_of r))
  pub within : Within (constant_bound (value_of r))

abbrev pub ExactAnswer : ℕ → ℕ → ℕ → Option ℕ → Type 0
ExactAnswer k a b (Some r) = Exactly k a b r
ExactAnswer k a b None = ⊥

-- what folding answers is never a NaN
abbrev pub NumberAnswer : Option ℕ → Type 0
NumberAnswer (Some r) = nan_bits binary64 r ≡ false
NumberAnswer None = Unit {0}

-- the answer of folding two patterns under a kind
pub record Folds (k a b : ℕ) (r : Option ℕ) : Type 0 where
  pub is : r ≡ stored (Patterns.fold k (value_of a) (value_of b))
  pub number : NumberAnswer r
  pub exact : Small k a b → ExactAnswer k a b r
