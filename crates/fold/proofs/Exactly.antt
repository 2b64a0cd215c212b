-- Under the W·2^P condition folding gives the exact sum, difference or product, and the condition holds of it again.
use Prim.Native.Nat.{ℕ}
use mathlib.Core.Path.{◌≡◌, refl, sym, ap, ◌∙◌, subst}
use mathlib.Core.Bool.{Bool, true, false, not, ◌&&◌, cond}
use mathlib.Core.Option.{Option, none, some}
use Rattle.std.specs.Prelude as Std
use mathlib.Core.List.{[], ◌∷◌}
use mathlib.Core.Logic.{inl, inr}
use lib.Dec.{T, eqb}
use lib.Ieee.{Float, nan, inf, fin, binary64, is_nan, nan_bits, add, sub, mul, div, eq, fits}
use lib.Ieee.Bits.{of_bits-to_bits, of_bits-fits, nan_bits_is}
use lib.Ieee.Fits.{add-fits, sub-fits, mul-fits, div-fits}
use Rattle.definitions.specs.Node.{add_kind, sub_kind, mul_kind, div_kind}
use Rattle.definitions.specs.Patterns.{zero64, binary64_result, unless_nan, fold}
use Rattle.definitions.specs.Value.{number}
use Rattle.definitions.specs.Exact.{Bound, constant_bound, add_bound, mul_bound, sum_bound, product_bound, Within}
use Rattle.definitions.proofs.Bounds.{Le, small_le, add_b_zero, mul_b_unit}
use Rattle.definitions.proofs.Floats.{laws}
use Rattle.definitions.proofs.NoNaN.{folds_to_numbers}
use Rattle.fold.specs.Fold.{value_of, pattern_of, stored, finite}
use Rattle.fold.specs.Exactness.{exact_result, Small, Exactly, ExactAnswer, NumberAnswer, Folds}

module _ (a b : ℕ) where
  abbrev x : Float
  x = value_of a

  abbrev y : Float
  y = value_of b

  x_fits : T (fits binary64 x)
  x_fits = of_bits-fits binary64 a

  y_fits : T (fits binary64 y)
  y_fits = of_bits-fits binary64 b

  -- a number within a bound, held by its pattern
  held : (k : ℕ) (z : Float) {B : Bound} → T (fits binary64 z) → number z ≡ exact_result k (number x) (number y) → T (finite z) × Le (constant_bound z) B → Within B → Exactly k a b (pattern_of z)
  held k z f e n w =
      let p = of_bits-to_bits binary64 z f in
      record {
        result = ap number p ∙ e;
        finite = subst (λ (v : Float). T (finite v)) (sym p) n.0;
        within = subst (λ (v : Float). Within (constant_bound v)) (sym p) (small_le n.1 w);
      }

  -- the bound of a list of two children is that of the two
  sum_within : Within (sum_bound (constant_bound x ∷ constant_bound y ∷ [])) → Within (add_bound (constant_bound x) (constant_bound y))
  sum_within = subst (λ (b : Bound). Within (add_bound (constant_bound x) b)) (add_b_zero (constant_bound y))

  product_within : Within (product_bound (constant_bound x ∷ constant_bound y ∷ [])) → Within (mul_bound (constant_bound x) (constant_bound y))
  product_within = subst (λ (b : Bound). Within (mul_bound (constant_bound x) b)) (mul_b_unit (constant_bound y))

  -- a finite result is answered
  answered : (k : ℕ) (z : Float) → T (finite z) → Exactly k a b (pattern_of z) → ExactAnswer k a b (stored (unless_nan (some z)))
  unfolding is_nan
  answered k nan f e = absurd f
  answered k (inf s) f e = absurd f
  answered k (fin s m j) f e = e

  sums : Small add_kind a b → ExactAnswer add_kind a b (stored (fold add_kind x y))
  unfolding fold binary64_result
  sums s =
      let w = sum_within s.within in
      let n = laws.add_le x y x_fits y_fits s.left s.right w in
      answered add_kind (add binary64 x y) n.0 (held add_kind (add binary64 x y) (add-fits binary64 x y) (laws.add_is x y x_fits y_fits s.left s.right w) n w)

  differences : Small sub_kind a b → ExactAnswer sub_kind a b (stored (fold sub_kind x y))
  unfolding fold binary64_result
  differences s =
      let w = sum_within s.within in
      let n = laws.sub_le x y x_fits y_fits s.left s.right w in
      answered sub_kind (sub binary64 x y) n.0 (held sub_kind (sub binary64 x y) (sub-fits binary64 x y) (laws.sub_is x y x_fits y_fits s.left s.right w) n w)

  products : Small mul_kind a b → ExactAnswer mul_kind a b (stored (fold mul_kind x y))
  unfolding fold binary64_result
  products s =
      let w = product_within s.within in
      let n = laws.mul_le x y x_fits y_fits s.left s.right w in
      answered mul_kind (mul binary64 x y) n.0 (held mul_kind (mul binary64 x y) (mul-fits binary64 x y) (laws.mul_is x y x_fits y_fits s.left s.right w) n w)

  exactly : (k : ℕ) → Small k a b → ExactAnswer k a b (stored (fold k x y))
  exactly k s = elim s.kind [
    | inl e ↦ subst (λ (j : ℕ). Small j a b → ExactAnswer j a b (stored (fold j x y))) (sym e) sums s
    | inr t ↦ elim t [
      | inl e ↦ subst (λ (j : ℕ). Small j a b → ExactAnswer j a b (stored (fold j x y))) (sym e) differences s
      | inr e ↦ subst (λ (j : ℕ). Small j a b → ExactAnswer j a b (stored (fold j x y))) (sym e) products s
    ]
  ]

  -- a result is a binary64 number or a NaN
  abbrev Fitting : Option Float → Type 0
  Fitting none = Unit {0}
  Fitting (some z) = T (fits binary64 z)

  cond_fitting : (c : Bool) (p q : Option Float) → Fitting p → Fitting q → Fitting (cond c p q)
  cond_fitting true p q f g = f
  cond_fitting false p q f g = g

  result_fitting : (k : ℕ) → Fitting (binary64_result k x y)
  unfolding binary64_result
  result_fitting k =
      cond_fitting (eqb k add_kind) (some (add binary64 x y)) _ (add-fits binary64 x y)
      (cond_fitting (eqb k sub_kind) (some (sub binary64 x y)) _ (sub-fits binary64 x y)
      (cond_fitting (eqb k mul_kind) (some (mul binary64 x y)) _ (mul-fits binary64 x y)
      (cond_fitting (eqb k div_kind && not (eq y zero64)) (some (div binary64 x y)) none (div-fits binary64 x y) tt)))

  -- and its bits are a number's where it is answered
  number_of : (k : ℕ) (z : Float) → binary64_result k x y ≡ some z → is_nan z ≡ false → nan_bits binary64 (pattern_of z) ≡ false
  number_of k z e n = nan_bits_is binary64 (pattern_of z) ∙ ap is_nan (of_bits-to_bits binary64 z (subst Fitting e (result_fitting k))) ∙ n

  numbered : (k : ℕ) (o : Option Float) → fold k x y ≡ o → NumberAnswer (stored o)
  numbered k none e = tt
  numbered k (some z) e = let f = folds_to_numbers k x y z e in number_of k z f.1 f.0

  -- an answer that is the definition's is a number, and exact where it can be
  pub folds : (k : ℕ) (r : Std.Option ℕ) → r ≡ stored (fold k x y) → Folds k a b r
  folds k r e = record { is = e; number = subst NumberAnswer (sym e) (numbered k (fold k x y) refl); exact = λ s. subst (ExactAnswer k a b) (sym e) (exactly k s) }
