-- A strict walk has only the listed patterns, and each fires wherever it fits.
use Prim.Native.Nat.{ℕ}
use native.Mathlib.Omega.{arith}
use mathlib.Core.Path.{◌≡◌, refl, sym, ap, ◌∙◌, subst}
use mathlib.Core.Bool.{Bool, true, false, cond}
use mathlib.Core.List.{List, [], ◌∷◌}
use mathlib.Core.Option.{Option, none, some}
use lib.Dec.{eqb}
use lib.Ieee.{Float, is_nan}
use borrow.Author.Tests.{eqb-true}
use Rattle.definitions.specs.Node.{Node, at, add_kind, sub_kind, mul_kind, div_kind, neg_kind}
use Rattle.definitions.specs.Intern.{Lent, Built, built}
use Rattle.definitions.specs.Patterns.{constant_value, binary64_result, intern_constant, or_else, when, only_child, neg_double, fold, folded, fold_both, constant_fold}
use Rattle.definitions.specs.Strict.{minus_zero_bits, plus_zero_bits, one_bits, is_constant_of, strict_sum, strict_difference, strict_product, strict_quotient, strict_identities, strict_apply}
use Rattle.definitions.specs.StrictFits.{StrictPattern, sum_right, sum_left, difference, product_left, product_right, quotient, double_neg, folding, OnlyThese, WhereverItFits}
use Rattle.definitions.proofs.NoNaN.{folds_to_numbers, folds_all_numbers}

-- ---- what holds of every result

abbrev OfResult : (Built → Type 0) → Option Built → Type 0
OfResult P none = Unit {0}
OfResult P (some m) = P m

module _ (P : Built → Type 0) where
  or_result : (x y : Option Built) → OfResult P x → OfResult P y → OfResult P (or_else x y)
  or_result none y p q = q
  or_result (some m) y p q = p

  when_result : (b : Bool) (m : Built) → (b ≡ true → P m) → OfResult P (when b m)
  when_result true m p = p refl
  when_result false m p = tt

  cond_result : (b : Bool) (x y : Option Built) → (b ≡ true → OfResult P x) → OfResult P y → OfResult P (cond b x y)
  cond_result true x y p q = p refl
  cond_result false x y p q = q

  is_result : (o : Option Built) (m : Built) → OfResult P o → o ≡ some m → P m
  is_result none m p e = let z : ◌≡◌ {A = ℕ} 0 1 = cc in absurd (omega arith)
  is_result (some n) m p e = let q : n ≡ m = cc in subst P q p

module _ (l : Lent) (ns : List Node) where
  module _ (a b : ℕ) where
    abbrev Listed : ℕ → Built → Type 0
    Listed k m = StrictPattern l ns k (a ∷ b ∷ []) m

    sum_listed : OfResult (Listed add_kind) (strict_sum ns a b)
    unfolding strict_sum
    sum_listed = or_result (Listed add_kind) (when (is_constant_of minus_zero_bits (at ns b)) (built ns a)) (when (is_constant_of minus_zero_bits (at ns a)) (built ns b))
        (when_result (Listed add_kind) (is_constant_of minus_zero_bits (at ns b)) (built ns a) (λ e. sum_right e))
        (when_result (Listed add_kind) (is_constant_of minus_zero_bits (at ns a)) (built ns b) (λ e. sum_left e))

    difference_listed : OfResult (Listed sub_kind) (strict_difference ns a b)
    unfolding strict_difference
    difference_listed = when_result (Listed sub_kind) (is_constant_of plus_zero_bits (at ns b)) (built ns a) (λ e. difference e)

    product_listed : OfResult (Listed mul_kind) (strict_product ns a b)
    unfolding strict_product
    product_listed = or_result (Listed mul_kind) (when (is_constant_of one_bits (at ns a)) (built ns b)) (when (is_constant_of one_bits (at ns b)) (built ns a))
        (when_result (Listed mul_kind) (is_constant_of one_bits (at ns a)) (built ns b) (λ e. product_left e))
        (when_result (Listed mul_kind) (is_constant_of one_bits (at ns b)) (built ns a) (λ e. product_right e))

    quotient_listed : OfResult (Listed div_kind) (strict_quotient ns a b)
    unfolding strict_quotient
    quotient_listed = when_result (Listed div_kind) (is_constant_of one_bits (at ns b)) (built ns a) (λ e. quotient e)

    for_kind : (k j : ℕ) (o : Option Built) → OfResult (Listed j) o → eqb k j ≡ true → OfResult (Listed k) o
    for_kind k j o p e = subst (λ (i : ℕ). OfResult (Listed i) o) (sym (eqb-true k j e)) p

    identities_listed : (k : ℕ) → OfResult (Listed k) (strict_identities ns k a b)
    unfolding strict_identities
    identities_listed k =
        cond_result (Listed k) (eqb k 2) (strict_sum ns a b) (cond (eqb k 3) (strict_difference ns a b) (cond (eqb k 4) (strict_product ns a b) (cond (eqb k 5) (strict_quotient ns a b) none))) (for_kind k 2 (strict_sum ns a b) sum_listed)
        (cond_result (Listed k) (eqb k 3) (strict_difference ns a b) (cond (eqb k 4) (strict_product ns a b) (cond (eqb k 5) (strict_quotient ns a b) none)) (for_kind k 3 (strict_difference ns a b) difference_listed)
        (cond_result (Listed k) (eqb k 4) (strict_product ns a b) (cond (eqb k 5) (strict_quotient ns a b) none) (for_kind k 4 (strict_product ns a b) product_listed)
        (cond_result (Listed k) (eqb k 5) (strict_quotient ns a b) none (for_kind k 5 (strict_quotient ns a b) quotient_listed) tt)))

    folded_listed : (k : ℕ) (x y : Float) → constant_value (at ns a) ≡ some x → constant_value (at ns b) ≡ some y → OfResult (Listed k) (folded l ns (fold k x y))
    folded_listed k x y ex ey = go (fold k x y) refl
      where
        go : (o : Option Float) → fold k x y ≡ o → OfResult (Listed k) (folded l ns o)
        go none e = tt
        go (some z) e = let q = folds_to_numbers k x y z e in folding ex ey q.1 q.0

    fold_listed : (k : ℕ) (x y : Option Float) → constant_value (at ns a) ≡ x → constant_value (at ns b) ≡ y → OfResult (Listed k) (fold_both l ns k x y)
    fold_listed k none y ex ey = tt
    fold_listed k (some x) none ex ey = tt
    fold_listed k (some x) (some y) ex ey = folded_listed k x y ex ey

  child_listed : (a : ℕ) → (at ns a).kind ≡ neg_kind → (ks : List ℕ) → (at ns a).children ≡ ks → OfResult (StrictPattern l ns neg_kind (a ∷ [])) (only_child ns ks)
  child_listed a n [] e = tt
  child_listed a n (b ∷ []) e = double_neg n e
  child_listed a n (b ∷ c ∷ ks) e = tt

  neg_listed : (k a : ℕ) → eqb k neg_kind ≡ true → OfResult (StrictPattern l ns k (a ∷ [])) (neg_double ns a)
  neg_listed k a e =
      subst (λ (j : ℕ). OfResult (StrictPattern l ns j (a ∷ [])) (neg_double ns a)) (sym (eqb-true k neg_kind e))
      (cond_result (StrictPattern l ns neg_kind (a ∷ [])) (eqb (at ns a).kind neg_kind) (only_child ns (at ns a).children) none
      (λ q. child_listed a (eqb-true (at ns a).kind neg_kind q) (at ns a).children refl) tt)

  listed : (k : ℕ) (vs : List ℕ) → OfResult (StrictPattern l ns k vs) (strict_apply l ns k vs)
  unfolding strict_apply constant_fold
  listed k [] = tt
  listed k (a ∷ []) = cond_result (StrictPattern l ns k (a ∷ [])) (eqb k neg_kind) (neg_double ns a) none (neg_listed k a) tt
  listed k (a ∷ b ∷ []) =
      or_result (Listed a b k) (strict_identities ns k a b) (constant_fold l ns k a b) (identities_listed a b k)
      (fold_listed a b k (constant_value (at ns a)) (constant_value (at ns b)) refl refl)
  listed k (a ∷ b ∷ c ∷ r) = tt

pub only_these : OnlyThese
only_these l ns k vs m e = is_result (StrictPattern l ns k vs) (strict_apply l ns k vs) m (listed l ns k vs) e

-- ---- a pattern that fits fires

abbrev Fires : Option Built → Type 0
Fires o = o ≡ none → ⊥

or_left : (x y : Option Built) → Fires x → Fires (or_else x y)
or_left none y f e = f refl
or_left (some m) y f e = let z : ◌≡◌ {A = ℕ} 0 1 = cc in absurd (omega arith)

or_right : (x y : Option Built) → Fires y → Fires (or_else x y)
or_right none y f e = f e
or_right (some m) y f e = let z : ◌≡◌ {A = ℕ} 0 1 = cc in absurd (omega arith)

when_fires : (b : Bool) (m : Built) → b ≡ true → Fires (when b m)
when_fires true m q e = let z : ◌≡◌ {A = ℕ} 0 1 = cc in absurd (omega arith)
when_fires false m q e = let z : ◌≡◌ {A = ℕ} 0 1 = cc in absurd (omega arith)

some_fires : (o : Option Built) (m : Built) → o ≡ some m → Fires o
some_fires o m q e = let z : ◌≡◌ {A = ℕ} 0 1 = cc in absurd (omega arith)

fold_fires : (l : Lent) (ns : List Node) (k a b : ℕ) (x y z : Float) → constant_value (at ns a) ≡ some x → constant_value (at ns b) ≡ some y → fold k x y ≡ some z → Fires (constant_fold l ns k a b)
unfolding constant_fold
fold_fires l ns k a b x y z ex ey f = some_fires _ (intern_constant l ns z)
    (ap (λ (o : Option Float). fold_both l ns k o (constant_value (at ns b))) ex ∙ ap (fold_both l ns k (some x)) ey ∙ ap (folded l ns) f)

neg_fires : (ns : List Node) (a b : ℕ) → (at ns a).kind ≡ neg_kind → (at ns a).children ≡ b ∷ [] → Fires (neg_double ns a)
neg_fires ns a b n c = some_fires _ (built ns b)
    (ap (λ (k : ℕ). cond (eqb k neg_kind) (only_child ns (at ns a).children) none) n ∙ ap (only_child ns) c)

pub wherever_it_fits : WhereverItFits
unfolding strict_apply strict_identities strict_sum strict_difference strict_product strict_quotient
wherever_it_fits l ns k vs m (sum_right {a} {b} e) = or_left _ _ (or_left _ _ (when_fires _ _ e))
wherever_it_fits l ns k vs m (sum_left {a} {b} e) = or_left _ _ (or_right (when (is_constant_of minus_zero_bits (at ns b)) (built ns a)) _ (when_fires _ _ e))
wherever_it_fits l ns k vs m (difference {a} {b} e) = or_left _ _ (when_fires _ _ e)
wherever_it_fits l ns k vs m (product_left {a} {b} e) = or_left _ _ (or_left _ _ (when_fires _ _ e))
wherever_it_fits l ns k vs m (product_right {a} {b} e) = or_left _ _ (or_right (when (is_constant_of one_bits (at ns a)) (built ns b)) _ (when_fires _ _ e))
wherever_it_fits l ns k vs m (quotient {a} {b} e) = or_left _ _ (when_fires _ _ e)
wherever_it_fits l ns k vs m (double_neg {a} {b} n c) = neg_fires ns a b n c
wherever_it_fits l ns k vs m (folding {a} {b} {x} {y} {z} ex ey r n) =
    or_right (strict_identities ns k a b) _ (fold_fires l ns k a b x y z ex ey (folds_all_numbers k x y z r n))
