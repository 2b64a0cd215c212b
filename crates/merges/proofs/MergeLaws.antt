-- Each way of merging a constant into a product or a sum, as a decision.
use Prim.Native.Nat.{ℕ, ◌<◌}
use mathlib.Core.Path.{◌≡◌, refl, ap, ◌∙◌, subst}
use mathlib.Core.List.{List}
use mathlib.Core.Option.{Option, none, some}
use lib.Ieee.{Float, binary64, of_bits}
use Rattle.std.specs.Prelude.{Some, None}
use Rattle.std.specs.Prelude as Std
use Rattle.definitions.specs.Node.{Node, at, add_kind, mul_kind}
use Rattle.definitions.specs.Intern.{Lent, Built}
use Rattle.definitions.specs.Patterns.{constant_value, pair_of, intern_constant, intern_add, intern_mul, fold, mul_left, mul_right, mul_merged, mul_merge, add_right, add_merged, add_merge, add_coef_merge}
use Rattle.fold.specs.Fold.{stored}
use Rattle.fold.specs.Exactness.{NumberAnswer, Folds}
use Rattle.kinds.specs.Kind.{operator_arity}
use Rattle.store.specs.View.{nodes_in, listed}
use Rattle.merges.specs.Merging.{Split, left, right, neither, split_by, split, on_side}
use Rattle.decisions.specs.Carrying.{Operand}
use Rattle.decisions.specs.Deciding.{Both, Decides, ResultLow, plain_result}
use Rattle.decisions.specs.declared.Replacement.{Replacement}
use Rattle.decisions.specs.declared.Replacement.TheVariants.{BesideConstant}
use Rattle.decisions.specs.declared.Side.{Side}
use Rattle.decisions.specs.declared.Side.TheVariants.{Left, Right}

-- a folded constant beside an operand; where the fold is declined merging does not fit
abbrev beside : ℕ → ℕ → Side → Std.Option ℕ → Std.Option Replacement
beside k other side (Some b) = Some (BesideConstant k b other side)
beside k other side None = None

beside_low : (count k q : ℕ) (side : Side) (f : Std.Option ℕ) → Operand count k q → NumberAnswer f → ResultLow count (beside k q side f)
beside_low count k q side (Some b) h n = (h, n)
beside_low count k q side None h n = tt

-- ---- what merging builds, by the split of the other operand
abbrev mul_split : Lent → List Node → Float → Split → Option Built
mul_split l ns c (left d q) = mul_left l ns q (fold mul_kind d c)
mul_split l ns c (right d p) = mul_right l ns p (fold mul_kind d c)
mul_split l ns c neither = none

mul_splits : (l : Lent) (ns : List Node) (c : Float) (pq : Option (ℕ × ℕ)) → mul_split l ns c (split ns pq) ≡ mul_merge l ns (some c) pq
mul_splits l ns c none = refl
mul_splits l ns c (some pq) = go (constant_value (at ns pq.0)) (constant_value (at ns pq.1))
  where
    go : (x y : Option Float) → mul_split l ns c (split_by pq.0 pq.1 x y) ≡ mul_merged l ns c pq.0 pq.1 x y
    go (some d) y = refl
    go none (some d) = refl
    go none none = refl

abbrev add_split : Lent → List Node → Float → Split → Option Built
add_split l ns c (left d q) = add_right l ns q (fold add_kind d c)
add_split l ns c (right d p) = add_right l ns p (fold add_kind d c)
add_split l ns c neither = none

add_splits : (l : Lent) (ns : List Node) (c : Float) (pq : Option (ℕ × ℕ)) → add_split l ns c (split ns pq) ≡ add_merge l ns (some c) pq
add_splits l ns c none = refl
add_splits l ns c (some pq) = go (constant_value (at ns pq.0)) (constant_value (at ns pq.1))
  where
    go : (x y : Option Float) → add_split l ns c (split_by pq.0 pq.1 x y) ≡ add_merged l ns c pq.0 pq.1 x y
    go (some d) y = refl
    go none (some d) = refl
    go none none = refl

-- ---- what a folded constant beside an operand builds
left_product : (l : Lent) (ns : List Node) (q : ℕ) (o : Option Float) → plain_result l ns (beside mul_kind q Left (stored o)) ≡ mul_left l ns q o
unfolding intern_constant intern_mul
left_product l ns q none = refl
left_product l ns q (some z) = refl

right_product : (l : Lent) (ns : List Node) (p : ℕ) (o : Option Float) → plain_result l ns (beside mul_kind p Right (stored o)) ≡ mul_right l ns p o
unfolding intern_constant intern_mul
right_product l ns p none = refl
right_product l ns p (some z) = refl

product_on_side : (l : Lent) (ns : List Node) (c d : Float) (q : ℕ) (side : Side) → plain_result l ns (beside mul_kind q side (stored (fold mul_kind d c))) ≡ mul_split l ns c (on_side side d q)
product_on_side l ns c d q Left = left_product l ns q (fold mul_kind d c)
product_on_side l ns c d q Right = right_product l ns q (fold mul_kind d c)

right_sum : (l : Lent) (ns : List Node) (p : ℕ) (o : Option Float) → plain_result l ns (beside add_kind p Right (stored o)) ≡ add_right l ns p o
unfolding intern_constant intern_add
right_sum l ns p none = refl
right_sum l ns p (some z) = refl

sum_on_side : (l : Lent) (ns : List Node) (c d : Float) (q : ℕ) (side : Side) → plain_result l ns (beside add_kind q Right (stored (fold add_kind d c))) ≡ add_split l ns c (on_side side d q)
sum_on_side l ns c d q Left = right_sum l ns q (fold add_kind d c)
sum_on_side l ns c d q Right = right_sum l ns q (fold add_kind d c)

mul_operand : (count q : ℕ) → q < count → Operand count mul_kind q
unfolding listed operator_arity
mul_operand count q h = record { below = h; listing = refl }

add_operand : (count q : ℕ) → q < count → Operand count add_kind q
unfolding listed operator_arity
add_operand count q h = record { below = h; listing = refl }

-- ---- a constant a beside a product b
module _ {w : List ℕ} {count a b : ℕ} (both : Both w count a b) where
  abbrev product : Lent → List Node → Option Built
  product l ns = mul_merge l ns (constant_value (at ns a)) (pair_of mul_kind (at ns b))

  pub no_factor : none ≡ constant_value (at (nodes_in w count) a) → Decides w count product None
  no_factor p = record { is = λ l. subst (λ (o : Option Float). none ≡ mul_merge l (nodes_in w count) o (pair_of mul_kind (at (nodes_in w count) b))) p refl; low = tt }

  module _ (j : ℕ) (p : some (of_bits binary64 j) ≡ constant_value (at (nodes_in w count) a)) where
    product_of : (s : Split) → s ≡ split (nodes_in w count) (pair_of mul_kind (at (nodes_in w count) b)) → (l : Lent) → mul_split l (nodes_in w count) (of_bits binary64 j) s ≡ product l (nodes_in w count)
    product_of s e l =
        ap (mul_split l (nodes_in w count) (of_bits binary64 j)) e ∙ mul_splits l (nodes_in w count) (of_bits binary64 j) (pair_of mul_kind (at (nodes_in w count) b))
        ∙ ap (λ (o : Option Float). mul_merge l (nodes_in w count) o (pair_of mul_kind (at (nodes_in w count) b))) p

    pub no_product : neither ≡ split (nodes_in w count) (pair_of mul_kind (at (nodes_in w count) b)) → Decides w count product None
    no_product e = record { is = product_of neither e; low = tt }

    pub merges_product : (i : ℕ) (side : Side) (q : ℕ) {r : Std.Option ℕ} → on_side side (of_bits binary64 i) q ≡ split (nodes_in w count) (pair_of mul_kind (at (nodes_in w count) b)) → q < count → Folds mul_kind i j r → Decides w count product (beside mul_kind q side r)
    merges_product i side q {r} e h f = record {
      is = λ l.
          ap (λ (t : Std.Option ℕ). plain_result l (nodes_in w count) (beside mul_kind q side t)) f.is
          ∙ product_on_side l (nodes_in w count) (of_bits binary64 j) (of_bits binary64 i) q side ∙ product_of (on_side side (of_bits binary64 i) q) e l;
      low = beside_low count mul_kind q side r (mul_operand count q h) f.number;
    }

-- ---- a sum a beside a constant b
module _ {w : List ℕ} {count a b : ℕ} (both : Both w count a b) where
  abbrev sum : Lent → List Node → Option Built
  sum l ns = add_coef_merge l ns a b

  pub no_term : none ≡ constant_value (at (nodes_in w count) b) → Decides w count sum None
  unfolding add_coef_merge
  no_term p = record { is = λ l. subst (λ (o : Option Float). none ≡ add_merge l (nodes_in w count) o (pair_of add_kind (at (nodes_in w count) a))) p refl; low = tt }

  module _ (j : ℕ) (p : some (of_bits binary64 j) ≡ constant_value (at (nodes_in w count) b)) where
    sum_of : (s : Split) → s ≡ split (nodes_in w count) (pair_of add_kind (at (nodes_in w count) a)) → (l : Lent) → add_split l (nodes_in w count) (of_bits binary64 j) s ≡ add_coef_merge l (nodes_in w count) a b
    unfolding add_coef_merge
    sum_of s e l =
        ap (add_split l (nodes_in w count) (of_bits binary64 j)) e ∙ add_splits l (nodes_in w count) (of_bits binary64 j) (pair_of add_kind (at (nodes_in w count) a))
        ∙ ap (λ (o : Option Float). add_merge l (nodes_in w count) o (pair_of add_kind (at (nodes_in w count) a))) p

    pub no_sum : neither ≡ split (nodes_in w count) (pair_of add_kind (at (nodes_in w count) a)) → Decides w count sum None
    no_sum e = record { is = sum_of neither e; low = tt }

    pub merges_sum : (i : ℕ) (side : Side) (q : ℕ) {r : Std.Option ℕ} → on_side side (of_bits binary64 i) q ≡ split (nodes_in w count) (pair_of add_kind (at (nodes_in w count) a)) → q < count → Folds add_kind i j r → Decides w count sum (beside add_kind q Right r)
    merges_sum i side q {r} e h f = record {
      is = λ l.
          ap (λ (t : Std.Option ℕ). plain_result l (nodes_in w count) (beside add_kind q Right t)) f.is
          ∙ sum_on_side l (nodes_in w count) (of_bits binary64 j) (of_bits binary64 i) q side ∙ sum_of (on_side side (of_bits binary64 i) q) e l;
      low = beside_low count add_kind q Right r (add_operand count q h) f.number;
    }
