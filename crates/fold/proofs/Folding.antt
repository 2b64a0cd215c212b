-- What folding gives for each kind, from values that are known by equations.
use mathlib.Core.Path.{◌≡◌, refl, ap}
use mathlib.Core.Bool.{Bool, true, false, not}
use mathlib.Core.Option.{none, some}
use Prim.Native.Nat.{ℕ}
use borrow.Author.Tests.{ne_eqb}
use lib.Ieee.{Float, binary64, add, sub, mul, div, ne, eq}
use Rattle.definitions.specs.Node.{add_kind, sub_kind, mul_kind, div_kind}
use Rattle.definitions.specs.Patterns.{binary64_result, unless_nan, fold, zero64}

-- what `!=` says of `==`
equal_unless : (x y : Float) {b : Bool} → ne x y ≡ b → eq x y ≡ not b
unfolding ne
equal_unless x y {b} h = go (eq x y) h
  where
    go : (a : Bool) → not a ≡ b → a ≡ not b
    go true h = ap not h
    go false h = ap not h

module _ {k : ℕ} {u v x y : Float} (p : u ≡ x) (q : v ≡ y) where
  pub sum_folds : k ≡ add_kind → unless_nan (some (add binary64 u v)) ≡ fold k x y
  unfolding fold binary64_result
  sum_folds e = rw (e, p, q)

  pub difference_folds : k ≡ sub_kind → unless_nan (some (sub binary64 u v)) ≡ fold k x y
  unfolding fold binary64_result
  difference_folds e = rw (e, p, q)

  pub product_folds : k ≡ mul_kind → unless_nan (some (mul binary64 u v)) ≡ fold k x y
  unfolding fold binary64_result
  product_folds e = rw (e, p, q)

  pub quotient_folds : k ≡ div_kind → ne v zero64 ≡ true → unless_nan (some (div binary64 u v)) ≡ fold k x y
  unfolding fold binary64_result
  quotient_folds e z = let d : eq v zero64 ≡ false = equal_unless v zero64 z in rw (e, ← p, ← q, d) refl

  pub by_zero_declined : k ≡ div_kind → ne v zero64 ≡ false → none ≡ fold k x y
  unfolding fold binary64_result
  by_zero_declined e z = let d : eq v zero64 ≡ true = equal_unless v zero64 z in rw (e, ← q, d) refl

pub other_declined : (k : ℕ) (x y : Float) → (k ≡ add_kind → ⊥) → (k ≡ sub_kind → ⊥) → (k ≡ mul_kind → ⊥) → (k ≡ div_kind → ⊥) → none ≡ fold k x y
unfolding fold binary64_result
other_declined k x y a s m d = rw (ne_eqb k add_kind a, ne_eqb k sub_kind s, ne_eqb k mul_kind m, ne_eqb k div_kind d) refl
