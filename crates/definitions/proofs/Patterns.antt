-- The machine's patterns and its rebuild: what they answer may stand for the node.
use Prim.Native.Nat.{ℕ, zero, suc, ◌+◌, ◌*◌, ◌^◌, ◌<◌, ◌≤◌, zero-le}
use mathlib.Core.Path.{◌≡◌, refl, sym, ap, ◌∙◌, subst, subst₂}
use mathlib.Core.Bool.{Bool, true, false, cond, ◌||◌, ◌&&◌, not, false≢true}
use mathlib.Core.List.{List, [], ◌∷◌}
use mathlib.Core.Option.{Option, none, some}
use lib.ListN.{length, get_or}
use native.Mathlib.Omega.{arith}
use native.Mathlib.Nat.{lt_irrefl}
use lib.Dec.{T, eqb, eqb→eq}
use lib.Ieee.{Float, nan, inf, fin, binary64, of_bits, to_bits, is_nan, add, sub, mul, div, eq}
use lib.Ieee.Bits.{of_bits-to_bits, nan_bits_is}
use lib.Ieee as I
use lib.Ieee.Fits.{add-fits, sub-fits, mul-fits, div-fits}
use Rattle.definitions.specs.Node.{Node, node, at, blank, same_children}
use Rattle.definitions.specs.Intern.{Built, built, stopped, Lent, intern, then}
use Rattle.definitions.specs.Patterns.{intern_constant, intern_add, intern_mul, constant_value, is_zero, is_one, is_finite, finite, is_positive, zero64, one64, or_else, when, add_zero, sub_identity, mul_identity, div_identity, pow_identity, only_child, neg_double, folded, fold_both, pair, pair_of, mul_merged, mul_merge, add_merged, add_merge, identities, merges, try_apply, binary64_result, unless_nan, fold, constant_fold, mul_left, mul_right, add_right, mul_coef_merge, add_coef_merge}
use Rattle.definitions.specs.Walk.{rebuilt_flags, rebuilt, rebuild_or_match}
use Rattle.definitions.specs.Formula.{Tree, tree, Forest, nil, cons, forest, formula}
use Rattle.definitions.specs.Dyadic.{Dyadic, zero_value, one_value}
use Rattle.definitions.specs.Value.{Reading, number, value_of, fraction_bits}
use Rattle.definitions.specs.Exact.{Bound, bound, bounds, node_bound, constant_bound, unit_bound, sum_bound, product_bound, first_bound, Exact, exact_kind}
use Rattle.definitions.proofs.Stable.{Lower, opened}
use Rattle.definitions.proofs.Intern.{Fit, Sound, Step, Result, stay, trans, interned, over, lower_up, same_children_eq}
use Rattle.definitions.proofs.Bounds.{Heavy, heavy_add, heavy_mul}
use Rattle.definitions.proofs.Refine.{Replaces, replaces_refl, replaces_trans, replaces_cong, Refines}
use Rattle.definitions.proofs.Walk.{StandsFor, Pairs, lower_at}
pub use Rattle.definitions.proofs.Results.{result_map, result_then, Fires, or_fires, if_fires, cond_fires, and_true, eqb_is}
use Rattle.definitions.proofs.Rebuilding.{rebuilt_stands, pairs_lower}
use Rattle.definitions.proofs.Trees.{IsConstant, constant_tree_is, constant_tree, constant_replaces, FloatLaws, binary, add_zero_left, add_zero_right, sub_zero, mul_one_left, mul_one_right, mul_zero_left, mul_zero_right, sub_self, neg_neg, fold_add, fold_sub, fold_mul, merge_add_left, merge_mul_left, binary_cong, add_swap, mul_swap}

-- what is made of a result that is folded, unless it is a NaN
pub unless_nan_lem : (ns : List Node) (Q : List Node → ℕ → Type 0) (f : Option Float → Option Built) (z : Float)
    → Fires ns Q (f none) → (is_nan z ≡ false → Fires ns Q (f (some z))) → Fires ns Q (f (unless_nan (some z)))
unless_nan_lem ns Q f z h g = go (is_nan z) refl
  where
    go : (b : Bool) → is_nan z ≡ b → Fires ns Q (f (cond b none (some z)))
    go true e = h
    go false e = g e

-- ---- what the tests on constants say
zero_inv : (o : Option Float) → is_zero o ≡ true → (x : Float) × (o ≡ some x) × (eq x zero64 ≡ true)
zero_inv none e = absurd (false≢true e)
zero_inv (some x) e = (x, refl, e)

one_inv : (o : Option Float) → is_one o ≡ true → (x : Float) × (o ≡ some x) × (eq x one64 ≡ true)
one_inv none e = absurd (false≢true e)
one_inv (some x) e = (x, refl, e)

two_inv : (ks : List ℕ) (pq : ℕ × ℕ) → pair ks ≡ some pq → ks ≡ pq.0 ∷ pq.1 ∷ []
two_inv [] pq e = let z : ◌≡◌ {A = ℕ} 0 1 = cc in absurd (omega arith)
two_inv (a ∷ []) pq e = let z : ◌≡◌ {A = ℕ} 0 1 = cc in absurd (omega arith)
two_inv (a ∷ b ∷ []) pq e =
    let d : ◌≡◌ {A = ℕ × ℕ} (a, b) pq = cc in
    ap (λ (x : ℕ × ℕ). x.0 ∷ x.1 ∷ []) d
two_inv (a ∷ b ∷ c ∷ r) pq e = let z : ◌≡◌ {A = ℕ} 0 1 = cc in absurd (omega arith)

module _ (ns : List Node) (s : Sound ns) where
  F : ℕ → Tree
  F = formula ns

  pub constant_is : (a : ℕ) (x : Float) → a < length ns → constant_value (at ns a) ≡ some x → IsConstant (formula ns a) x
  unfolding constant_value
  constant_is a x h e = go (eqb (at ns a).kind 1) refl e
    where
      n : Node
      n = at ns a

      go : (b : Bool) → eqb n.kind 1 ≡ b → cond b (some (of_bits binary64 n.payload)) none ≡ some x → IsConstant (formula ns a) x
      go true k e =
          let ex : of_bits binary64 n.payload ≡ x = cc in
          let ek : n.kind ≡ 1 = eqb_is n.kind 1 k in
          subst₂ IsConstant (sym (opened ns a h (s a h).low ∙ ap (λ k. tree k n.payload n.flags (forest (formula ns) n.children)) ek)) ex
          (constant_tree_is n.payload n.flags (forest (formula ns) n.children))
      go false k e = let z : ◌≡◌ {A = ℕ} 0 1 = cc in absurd (omega arith)

  record Pair (k a p q : ℕ) : Type 0 where
    payload : ℕ
    flags : ℕ
    is : formula ns a ≡ binary k payload flags (formula ns p) (formula ns q)
    left : p < length ns
    right : q < length ns

  pair_c : (k a : ℕ) (pq : ℕ × ℕ) → a < length ns → pair_of k (at ns a) ≡ some pq → Pair k a pq.0 pq.1
  pair_c k a pq h e = go (eqb (at ns a).kind k) refl e
    where
      n : Node
      n = at ns a

      go : (b : Bool) → eqb n.kind k ≡ b → cond b (pair n.children) none ≡ some pq → Pair k a pq.0 pq.1
      go true t e =
          let ek = two_inv n.children pq e in
          let low = lower_up a (length ns) (omega arith) (pq.0 ∷ pq.1 ∷ []) (subst (Lower a) ek (s a h).low) in
          record {
            payload = n.payload;
            flags = n.flags;
            is = opened ns a h (s a h).low ∙ ap (λ j. tree j n.payload n.flags (forest (formula ns) n.children)) (eqb_is n.kind k t)
                ∙ ap (λ ks. tree k n.payload n.flags (forest (formula ns) ks)) ek;
            left = low.0;
            right = low.1.0;
          }
      go false t e = let z : ◌≡◌ {A = ℕ} 0 1 = cc in absurd (omega arith)

-- ---- every formula of a sound store weighs 1 at least
down_is : (e : lib.IntN.ℤ) → 2 ^ fraction_bits e ≡ I.down e
down_is (lib.IntN.pos k) = refl
down_is (lib.IntN.negsuc k) = refl

heavy_const : (x : Float) → Heavy (constant_bound x)
heavy_const nan = omega arith
heavy_const (inf b) = omega arith
heavy_const (fin b m e) = omega (arith, down_is e)

abbrev AllHeavy : List Bound → Type 0
AllHeavy [] = Unit {0}
AllHeavy (b ∷ bs) = Heavy b × AllHeavy bs

heavy_product : (bs : List Bound) → AllHeavy bs → Heavy (product_bound bs)
heavy_product [] h = omega arith
heavy_product (b ∷ bs) h = heavy_mul b (product_bound bs) h.0 (heavy_product bs h.1)

heavy_first : (bs : List Bound) → AllHeavy bs → Heavy (first_bound bs)
heavy_first [] h = omega arith
heavy_first (b ∷ bs) h = h.0

heavy_sum : (bs : List Bound) → 0 < length bs → AllHeavy bs → Heavy (sum_bound bs)
heavy_sum [] l h = absurd (omega arith)
heavy_sum (b ∷ bs) l h = heavy_add b (sum_bound bs) h.0

heavy_of : (k p : ℕ) (bs : List Bound) → (T (eqb k 2 || eqb k 3) → 0 < length bs) → AllHeavy bs → Heavy (node_bound k p bs)
heavy_of k p bs l h = one (eqb k 1)
  where
    four : (b : Bool) → Heavy (cond b (first_bound bs) unit_bound)
    four true = heavy_first bs h
    four false = omega arith

    three : (b : Bool) → Heavy (cond b (product_bound bs) (cond (eqb k 8) (first_bound bs) unit_bound))
    three true = heavy_product bs h
    three false = four (eqb k 8)

    mid : (b : Bool) → (T b → 0 < length bs) → Heavy (cond b (sum_bound bs) (cond (eqb k 4) (product_bound bs) (cond (eqb k 8) (first_bound bs) unit_bound)))
    mid true l = heavy_sum bs (l tt) h
    mid false l = three (eqb k 4)

    one : (b : Bool) → Heavy (cond b (constant_bound (of_bits binary64 p)) (cond (eqb k 2 || eqb k 3) (sum_bound bs) (cond (eqb k 4) (product_bound bs) (cond (eqb k 8) (first_bound bs) unit_bound))))
    one true = heavy_const (of_bits binary64 p)
    one false = mid (eqb k 2 || eqb k 3) l

heavy_children : (f : ℕ → Tree) (n : ℕ) → ((k : ℕ) → k < n → Heavy (bound (f k))) → (ks : List ℕ) → Lower n ks → AllHeavy (bounds (forest f ks))
unfolding bound
heavy_children f n h [] l = tt
heavy_children f n h (k ∷ ks) l = (h k l.0, heavy_children f n h ks l.1)

bounds_length : (f : ℕ → Tree) (ks : List ℕ) → length (bounds (forest f ks)) ≡ length ks
unfolding bound
bounds_length f [] = refl
bounds_length f (k ∷ ks) = ap suc (bounds_length f ks)

heavy_under : (ns : List Node) → Sound ns → (d i : ℕ) → i < d → i < length ns → Heavy (bound (formula ns i))
unfolding bound
heavy_under ns s zero i h hi = absurd (omega arith)
heavy_under ns s (suc d) i h hi =
    let n = at ns i in
    subst (λ t. Heavy (bound t)) (sym (opened ns i hi (s i hi).low))
    (heavy_of n.kind n.payload (bounds (forest (formula ns) n.children))
    (λ t. omega (arith, bounds_length (formula ns) n.children, (s i hi).filled t))
    (heavy_children (formula ns) i (λ k hk. heavy_under ns s d k (omega arith) (omega arith)) n.children (s i hi).low))

pub heavy : (ns : List Node) → Sound ns → (i : ℕ) → i < length ns → Heavy (bound (formula ns i))
heavy ns s i h = heavy_under ns s (suc i) i (omega arith) h

-- ---- building what a pattern answers

-- a binary64 number, and no NaN
abbrev pub Number : Float → Type 0
Number z = T (I.fits binary64 z) × (is_nan z ≡ false)

pub constantly : (l : Lent) (ns : List Node) (z : Float) → Sound ns → Number z → Result ns (λ ms i. formula ms i ≡ constant_tree z) (intern_constant l ns z)
unfolding intern_constant
constantly l ns z s h = interned l ns (node 1 (to_bits binary64 z) 0 []) s (record { low = tt; filled = λ t. absurd t; number = nan_bits_is binary64 (to_bits binary64 z) ∙ ap is_nan (of_bits-to_bits binary64 z h.0) ∙ h.1 })

pub const_stands : (l : Lent) (ns : List Node) (z : Float) (t : Tree) → Sound ns → Number z → Replaces (constant_tree z) t → Result ns (λ ms i. Replaces (formula ms i) t) (intern_constant l ns z)
const_stands l ns z t s h g = result_map ns (λ ms i. formula ms i ≡ constant_tree z) (λ ms i. Replaces (formula ms i) t) (intern_constant l ns z) (λ ms i st e. subst (λ u. Replaces u t) (sym e) g) (constantly l ns z s h)

pub added : (l : Lent) (ns : List Node) (a b : ℕ) → Sound ns → a < length ns → b < length ns → Result ns (λ ms i. formula ms i ≡ binary 2 0 3 (formula ns a) (formula ns b)) (intern_add l ns a b)
unfolding intern_add
added l ns a b s ha hb = interned l ns (node 2 0 3 (a ∷ b ∷ [])) s (record { low = (ha, (hb, tt)); filled = λ t. omega arith; number = refl })

multiplied : (l : Lent) (ns : List Node) (a b : ℕ) → Sound ns → a < length ns → b < length ns → Result ns (λ ms i. formula ms i ≡ binary 4 0 3 (formula ns a) (formula ns b)) (intern_mul l ns a b)
unfolding intern_mul
multiplied l ns a b s ha hb = interned l ns (node 4 0 3 (a ∷ b ∷ [])) s (record { low = (ha, (hb, tt)); filled = λ t. omega arith; number = refl })

-- ---- the patterns for two children
pub no_div : (p f : ℕ) (a b t : Tree) → Replaces t (binary 5 p f a b)
unfolding Exact
no_div p f a b t x = absurd x.1

no_pow : (p f : ℕ) (a b t : Tree) → Replaces t (binary 6 p f a b)
unfolding Exact
no_pow p f a b t x = absurd x.1

pub zero_number : Number zero64
unfolding I.fits is_nan
zero_number = (tt, refl)

one_number : Number one64
unfolding I.fits is_nan
one_number = (tt, refl)

or_true : (a b : Bool) → a || b ≡ true → (c : Type 0) → (a ≡ true → c) → (b ≡ true → c) → c
or_true true b e c f g = f refl
or_true false b e c f g = g e

module _ (L : FloatLaws) (l : Lent) (ns : List Node) (s : Sound ns) where
  -- a constant and a node over it
  mul_left_made : (z : Float) (q : ℕ) (t : Tree) → Number z → q < length ns → Replaces (binary 4 0 3 (constant_tree z) (formula ns q)) t
      → Result ns (λ ms i. Replaces (formula ms i) t) (then (intern_constant l ns z) (λ ms i. intern_mul l ms i q))
  mul_left_made z q t h hq g =
      result_then ns (λ ms i. formula ms i ≡ constant_tree z) (λ ms i. Replaces (formula ms i) t) (intern_constant l ns z) (λ ms i. intern_mul l ms i q)
      (λ ms i st hi e. result_map ms (λ os j. formula os j ≡ binary 4 0 3 (formula ms i) (formula ms q)) (λ os j. Replaces (formula os j) t) (intern_mul l ms i q)
      (λ os j st' e'. subst (λ u. Replaces u t) (sym (e' ∙ ap (λ u. binary 4 0 3 u (formula ms q)) e ∙ ap (binary 4 0 3 (constant_tree z)) (st.kept q hq))) g)
      (multiplied l ms i q st.sound hi (omega (arith, st.longer))))
      (constantly l ns z s h)

  mul_right_made : (z : Float) (q : ℕ) (t : Tree) → Number z → q < length ns → Replaces (binary 4 0 3 (formula ns q) (constant_tree z)) t
      → Result ns (λ ms i. Replaces (formula ms i) t) (then (intern_constant l ns z) (λ ms i. intern_mul l ms q i))
  mul_right_made z q t h hq g =
      result_then ns (λ ms i. formula ms i ≡ constant_tree z) (λ ms i. Replaces (formula ms i) t) (intern_constant l ns z) (λ ms i. intern_mul l ms q i)
      (λ ms i st hi e. result_map ms (λ os j. formula os j ≡ binary 4 0 3 (formula ms q) (formula ms i)) (λ os j. Replaces (formula os j) t) (intern_mul l ms q i)
      (λ os j st' e'. subst (λ u. Replaces u t) (sym (e' ∙ ap (binary 4 0 3 (formula ms q)) e ∙ ap (λ u. binary 4 0 3 u (constant_tree z)) (st.kept q hq))) g)
      (multiplied l ms q i st.sound (omega (arith, st.longer)) hi))
      (constantly l ns z s h)

  add_right_made : (z : Float) (q : ℕ) (t : Tree) → Number z → q < length ns → Replaces (binary 2 0 3 (formula ns q) (constant_tree z)) t
      → Result ns (λ ms i. Replaces (formula ms i) t) (then (intern_constant l ns z) (λ ms i. intern_add l ms q i))
  add_right_made z q t h hq g =
      result_then ns (λ ms i. formula ms i ≡ constant_tree z) (λ ms i. Replaces (formula ms i) t) (intern_constant l ns z) (λ ms i. intern_add l ms q i)
      (λ ms i st hi e. result_map ms (λ os j. formula os j ≡ binary 2 0 3 (formula ms q) (formula ms i)) (λ os j. Replaces (formula os j) t) (intern_add l ms q i)
      (λ os j st' e'. subst (λ u. Replaces u t) (sym (e' ∙ ap (binary 2 0 3 (formula ms q)) e ∙ ap (λ u. binary 2 0 3 u (constant_tree z)) (st.kept q hq))) g)
      (added l ms q i st.sound (omega (arith, st.longer)) hi))
      (constantly l ns z s h)

  -- w is p over q, o the constant beside it
  module _ (p f w o : ℕ) (c : Float) (co : IsConstant (formula ns o) c) (t : Tree) where
    -- what the merge answers may stand for t
    abbrev S : List Node → ℕ → Type 0
    S ms i = Replaces (formula ms i) t

    merges_mul : (pq : ℕ × ℕ) → Pair ns s 4 w pq.0 pq.1 → Replaces (binary 4 p f (formula ns w) (formula ns o)) t → (x y : Option Float) → constant_value (at ns pq.0) ≡ x → constant_value (at ns pq.1) ≡ y
        → Fires ns S (mul_merged l ns c pq.0 pq.1 x y)
    unfolding fold binary64_result
    merges_mul pq w' g (some d) y ex ey =
        let P = formula ns pq.0 in
        let q = formula ns pq.1 in
        let cp = constant_is ns s pq.0 d w'.left ex in
        let base : Replaces (binary 4 p f (binary 4 w'.payload w'.flags P q) (formula ns o)) t = subst (λ u. Replaces (binary 4 p f u (formula ns o)) t) w'.is g in
        unless_nan_lem ns S (mul_left l ns pq.1) (mul binary64 d c) tt (λ h. mul_left_made (mul binary64 d c) pq.1 t (mul-fits binary64 d c, h) w'.right
        (replaces_trans (merge_mul_left L p f w'.payload w'.flags P q (formula ns o) d c cp co (heavy ns s pq.1 w'.right)) base))
    merges_mul pq w' g none (some d) ex ey =
        let P = formula ns pq.0 in
        let q = formula ns pq.1 in
        let cq = constant_is ns s pq.1 d w'.right ey in
        let base : Replaces (binary 4 p f (binary 4 w'.payload w'.flags P q) (formula ns o)) t = subst (λ u. Replaces (binary 4 p f u (formula ns o)) t) w'.is g in
        let turned : Replaces (binary 4 p f (binary 4 w'.payload w'.flags q P) (formula ns o)) t =
        replaces_trans (binary_cong 4 p f f (mul_swap w'.payload w'.payload w'.flags w'.flags P q) (replaces_refl (formula ns o))) base in
        unless_nan_lem ns S (mul_right l ns pq.0) (mul binary64 d c) tt (λ h. mul_right_made (mul binary64 d c) pq.0 t (mul-fits binary64 d c, h) w'.left
        (replaces_trans (mul_swap 0 0 3 3 (constant_tree (mul binary64 d c)) P)
        (replaces_trans (merge_mul_left L p f w'.payload w'.flags q P (formula ns o) d c cq co (heavy ns s pq.0 w'.left)) turned)))
    merges_mul pq w' g none none ex ey = tt

    merges_add : (pq : ℕ × ℕ) → Pair ns s 2 w pq.0 pq.1 → Replaces (binary 2 p f (formula ns w) (formula ns o)) t → (x y : Option Float) → constant_value (at ns pq.0) ≡ x → constant_value (at ns pq.1) ≡ y
        → Fires ns S (add_merged l ns c pq.0 pq.1 x y)
    unfolding fold binary64_result
    merges_add pq w' g (some d) y ex ey =
        let P = formula ns pq.0 in
        let q = formula ns pq.1 in
        let cp = constant_is ns s pq.0 d w'.left ex in
        let base : Replaces (binary 2 p f (binary 2 w'.payload w'.flags P q) (formula ns o)) t = subst (λ u. Replaces (binary 2 p f u (formula ns o)) t) w'.is g in
        unless_nan_lem ns S (add_right l ns pq.1) (add binary64 d c) tt (λ h. add_right_made (add binary64 d c) pq.1 t (add-fits binary64 d c, h) w'.right
        (replaces_trans (merge_add_left L p f w'.payload w'.flags P q (formula ns o) d c cp co) base))
    merges_add pq w' g none (some d) ex ey =
        let P = formula ns pq.0 in
        let q = formula ns pq.1 in
        let cq = constant_is ns s pq.1 d w'.right ey in
        let base : Replaces (binary 2 p f (binary 2 w'.payload w'.flags P q) (formula ns o)) t = subst (λ u. Replaces (binary 2 p f u (formula ns o)) t) w'.is g in
        let turned : Replaces (binary 2 p f (binary 2 w'.payload w'.flags q P) (formula ns o)) t =
        replaces_trans (binary_cong 2 p f f (add_swap w'.payload w'.payload w'.flags w'.flags P q) (replaces_refl (formula ns o))) base in
        unless_nan_lem ns S (add_right l ns pq.0) (add binary64 d c) tt (λ h. add_right_made (add binary64 d c) pq.0 t (add-fits binary64 d c, h) w'.left
        (replaces_trans (merge_add_left L p f w'.payload w'.flags q P (formula ns o) d c cq co) turned))
    merges_add pq w' g none none ex ey = tt

  module _ (p f a b : ℕ) (ha : a < length ns) (hb : b < length ns) where
    abbrev pub Q : ℕ → List Node → ℕ → Type 0
    Q k ms i = Replaces (formula ms i) (binary k p f (formula ns a) (formula ns b))

    pub is_zero_lem : (c : ℕ) → c < length ns → is_zero (constant_value (at ns c)) ≡ true → (r : Reading) → value_of r (formula ns c) ≡ zero_value
    is_zero_lem c h e r = let (x, ek, ez) = zero_inv (constant_value (at ns c)) e in (constant_is ns s c x h ek).value r ∙ L.zero_is x ez

    pub is_one_lem : (c : ℕ) → c < length ns → is_one (constant_value (at ns c)) ≡ true → (r : Reading) → value_of r (formula ns c) ≡ one_value
    is_one_lem c h e r = let (x, ek, ez) = one_inv (constant_value (at ns c)) e in (constant_is ns s c x h ek).value r ∙ L.one_is x ez

    zero_stands : (k : ℕ) → Replaces (constant_tree zero64) (binary k p f (formula ns a) (formula ns b)) → Result ns (Q k) (intern_constant l ns zero64)
    zero_stands k g = const_stands l ns zero64 (binary k p f (formula ns a) (formula ns b)) s zero_number g

    one_stands : (k : ℕ) → Replaces (constant_tree one64) (binary k p f (formula ns a) (formula ns b)) → Result ns (Q k) (intern_constant l ns one64)
    one_stands k g = const_stands l ns one64 (binary k p f (formula ns a) (formula ns b)) s one_number g

    add_id : Fires ns (Q 2) (add_zero l ns a b)
    unfolding add_zero
    add_id = or_fires ns (Q 2) (when (is_zero (constant_value (at ns a))) (built ns b)) (when (is_zero (constant_value (at ns b))) (built ns a))
        (if_fires ns (Q 2) (is_zero (constant_value (at ns a))) (built ns b) (λ e. (stay ns s, hb, add_zero_left p f (formula ns a) (formula ns b) (is_zero_lem a ha e))))
        (if_fires ns (Q 2) (is_zero (constant_value (at ns b))) (built ns a) (λ e. (stay ns s, ha, add_zero_right p f (formula ns a) (formula ns b) (is_zero_lem b hb e))))

    sub_id : Fires ns (Q 3) (sub_identity l ns a b)
    unfolding sub_identity
    sub_id = or_fires ns (Q 3) (when (is_zero (constant_value (at ns b))) (built ns a)) (when (eqb a b) (intern_constant l ns zero64))
        (if_fires ns (Q 3) (is_zero (constant_value (at ns b))) (built ns a) (λ e. (stay ns s, ha, sub_zero p f (formula ns a) (formula ns b) (is_zero_lem b hb e))))
        (if_fires ns (Q 3) (eqb a b) (intern_constant l ns zero64) (λ e. zero_stands 3 (subst (λ c. Replaces (constant_tree zero64) (binary 3 p f (formula ns a) (formula ns c))) (eqb_is a b e) (sub_self p f (formula ns a) (heavy ns s a ha)))))

    mul_id : Fires ns (Q 4) (mul_identity l ns a b)
    unfolding mul_identity
    mul_id = or_fires ns (Q 4) (when (is_zero (constant_value (at ns a)) && is_finite (constant_value (at ns b)) || is_zero (constant_value (at ns b)) && is_finite (constant_value (at ns a))) (intern_constant l ns zero64)) (or_else (when (is_one (constant_value (at ns a))) (built ns b)) (when (is_one (constant_value (at ns b))) (built ns a)))
        (if_fires ns (Q 4) (is_zero (constant_value (at ns a)) && is_finite (constant_value (at ns b)) || is_zero (constant_value (at ns b)) && is_finite (constant_value (at ns a))) (intern_constant l ns zero64) (λ e. zero_stands 4 (or_true (is_zero (constant_value (at ns a)) && is_finite (constant_value (at ns b))) (is_zero (constant_value (at ns b)) && is_finite (constant_value (at ns a))) e _
        (λ e1. mul_zero_left p f (formula ns a) (formula ns b) (heavy ns s a ha) (heavy ns s b hb) (is_zero_lem a ha (and_true _ _ e1).0))
        (λ e2. mul_zero_right p f (formula ns a) (formula ns b) (heavy ns s a ha) (heavy ns s b hb) (is_zero_lem b hb (and_true _ _ e2).0)))))
        (or_fires ns (Q 4) (when (is_one (constant_value (at ns a))) (built ns b)) (when (is_one (constant_value (at ns b))) (built ns a))
        (if_fires ns (Q 4) (is_one (constant_value (at ns a))) (built ns b) (λ e. (stay ns s, hb, mul_one_left p f (formula ns a) (formula ns b) (heavy ns s a ha) (is_one_lem a ha e))))
        (if_fires ns (Q 4) (is_one (constant_value (at ns b))) (built ns a) (λ e. (stay ns s, ha, mul_one_right p f (formula ns a) (formula ns b) (heavy ns s b hb) (is_one_lem b hb e)))))

    div_id : Fires ns (Q 5) (div_identity l ns a b)
    unfolding div_identity
    div_id = or_fires ns (Q 5) (when (is_one (constant_value (at ns b))) (built ns a)) (or_else (when (is_zero (constant_value (at ns a))) (intern_constant l ns zero64)) (when (eqb a b && (eqb (at ns a).kind 1 && not (is_zero (constant_value (at ns a))))) (intern_constant l ns one64)))
        (if_fires ns (Q 5) (is_one (constant_value (at ns b))) (built ns a) (λ e. (stay ns s, ha, no_div p f (formula ns a) (formula ns b) (formula ns a))))
        (or_fires ns (Q 5) (when (is_zero (constant_value (at ns a))) (intern_constant l ns zero64)) (when (eqb a b && (eqb (at ns a).kind 1 && not (is_zero (constant_value (at ns a))))) (intern_constant l ns one64))
        (if_fires ns (Q 5) (is_zero (constant_value (at ns a))) (intern_constant l ns zero64) (λ e. zero_stands 5 (no_div p f (formula ns a) (formula ns b) (constant_tree zero64))))
        (if_fires ns (Q 5) (eqb a b && (eqb (at ns a).kind 1 && not (is_zero (constant_value (at ns a))))) (intern_constant l ns one64) (λ e. one_stands 5 (no_div p f (formula ns a) (formula ns b) (constant_tree one64)))))

    pow_id : Fires ns (Q 6) (pow_identity l ns a b)
    unfolding pow_identity
    pow_id = or_fires ns (Q 6) (when (is_zero (constant_value (at ns b))) (intern_constant l ns one64)) (or_else (when (is_one (constant_value (at ns b))) (built ns a)) (or_else (when (is_one (constant_value (at ns a))) (intern_constant l ns one64)) (when (is_zero (constant_value (at ns a)) && is_positive (constant_value (at ns b))) (intern_constant l ns zero64))))
        (if_fires ns (Q 6) (is_zero (constant_value (at ns b))) (intern_constant l ns one64) (λ e. one_stands 6 (no_pow p f (formula ns a) (formula ns b) (constant_tree one64))))
        (or_fires ns (Q 6) (when (is_one (constant_value (at ns b))) (built ns a)) (or_else (when (is_one (constant_value (at ns a))) (intern_constant l ns one64)) (when (is_zero (constant_value (at ns a)) && is_positive (constant_value (at ns b))) (intern_constant l ns zero64)))
        (if_fires ns (Q 6) (is_one (constant_value (at ns b))) (built ns a) (λ e. (stay ns s, ha, no_pow p f (formula ns a) (formula ns b) (formula ns a))))
        (or_fires ns (Q 6) (when (is_one (constant_value (at ns a))) (intern_constant l ns one64)) (when (is_zero (constant_value (at ns a)) && is_positive (constant_value (at ns b))) (intern_constant l ns zero64))
        (if_fires ns (Q 6) (is_one (constant_value (at ns a))) (intern_constant l ns one64) (λ e. one_stands 6 (no_pow p f (formula ns a) (formula ns b) (constant_tree one64))))
        (if_fires ns (Q 6) (is_zero (constant_value (at ns a)) && is_positive (constant_value (at ns b))) (intern_constant l ns zero64) (λ e. zero_stands 6 (no_pow p f (formula ns a) (formula ns b) (constant_tree zero64))))))

    -- a case for one kind serves the kind k that passed the test
    pub kinded : (k j : ℕ) (m : Option Built) → Fires ns (Q j) m → eqb k j ≡ true → Fires ns (Q k) m
    kinded k j m x e = subst (λ i. Fires ns (Q i) m) (sym (eqb_is k j e)) x

    id_fires : (k : ℕ) → Fires ns (Q k) (identities l ns k a b)
    unfolding identities
    id_fires k =
        cond_fires ns (Q k) (eqb k 2) (add_zero l ns a b) (cond (eqb k 3) (sub_identity l ns a b) (cond (eqb k 4) (mul_identity l ns a b) (cond (eqb k 5) (div_identity l ns a b) (cond (eqb k 6) (pow_identity l ns a b) none)))) (kinded k 2 (add_zero l ns a b) add_id)
        (cond_fires ns (Q k) (eqb k 3) (sub_identity l ns a b) (cond (eqb k 4) (mul_identity l ns a b) (cond (eqb k 5) (div_identity l ns a b) (cond (eqb k 6) (pow_identity l ns a b) none))) (kinded k 3 (sub_identity l ns a b) sub_id)
        (cond_fires ns (Q k) (eqb k 4) (mul_identity l ns a b) (cond (eqb k 5) (div_identity l ns a b) (cond (eqb k 6) (pow_identity l ns a b) none)) (kinded k 4 (mul_identity l ns a b) mul_id)
        (cond_fires ns (Q k) (eqb k 5) (div_identity l ns a b) (cond (eqb k 6) (pow_identity l ns a b) none) (kinded k 5 (div_identity l ns a b) div_id)
        (cond_fires ns (Q k) (eqb k 6) (pow_identity l ns a b) none (kinded k 6 (pow_identity l ns a b) pow_id) tt))))

    -- a result may stand for the node
    abbrev ResultStands : ℕ → Option Float → Type 0
    ResultStands k none = Unit {0}
    ResultStands k (some z) = T (I.fits binary64 z) × Replaces (constant_tree z) (binary k p f (formula ns a) (formula ns b))

    cond_stands : (k : ℕ) (c : Bool) (x y : Option Float) → (c ≡ true → ResultStands k x) → ResultStands k y → ResultStands k (cond c x y)
    cond_stands k true x y h g = h refl
    cond_stands k false x y h g = g

    kind_stands : (k j : ℕ) (o : Option Float) → ResultStands j o → eqb k j ≡ true → ResultStands k o
    kind_stands k j o h e = subst (λ i. ResultStands i o) (sym (eqb_is k j e)) h

    result_stands : (k : ℕ) (x y : Float) → IsConstant (formula ns a) x → IsConstant (formula ns b) y → ResultStands k (binary64_result k x y)
    unfolding binary64_result
    result_stands k x y ca cb =
        let A = formula ns a in
        let B = formula ns b in
        cond_stands k (eqb k 2) (some (add binary64 x y)) _ (kind_stands k 2 (some (add binary64 x y)) (add-fits binary64 x y, fold_add L p f A B x y ca cb))
        (cond_stands k (eqb k 3) (some (sub binary64 x y)) _ (kind_stands k 3 (some (sub binary64 x y)) (sub-fits binary64 x y, fold_sub L p f A B x y ca cb))
        (cond_stands k (eqb k 4) (some (mul binary64 x y)) _ (kind_stands k 4 (some (mul binary64 x y)) (mul-fits binary64 x y, fold_mul L p f A B x y ca cb))
        (cond_stands k (eqb k 5 && not (eq y zero64)) (some (div binary64 x y)) none
        (λ e. kind_stands k 5 (some (div binary64 x y)) (div-fits binary64 x y, no_div p f A B (constant_tree (div binary64 x y))) (and_true _ _ e).0) tt)))

    result_fires : (k : ℕ) (o : Option Float) → ResultStands k o → Fires ns (Q k) (folded l ns (unless_nan o))
    result_fires k none h = tt
    result_fires k (some z) h = unless_nan_lem ns (Q k) (folded l ns) z tt (λ n. const_stands l ns z (binary k p f (formula ns a) (formula ns b)) s (h.0, n) h.1)

    folded_fires : (k : ℕ) (x y : Float) → IsConstant (formula ns a) x → IsConstant (formula ns b) y → Fires ns (Q k) (folded l ns (fold k x y))
    unfolding fold
    folded_fires k x y ca cb = result_fires k (binary64_result k x y) (result_stands k x y ca cb)

    both_fire : (k : ℕ) (x y : Option Float) → constant_value (at ns a) ≡ x → constant_value (at ns b) ≡ y → Fires ns (Q k) (fold_both l ns k x y)
    both_fire k none y ex ey = tt
    both_fire k (some x) none ex ey = tt
    both_fire k (some x) (some y) ex ey = folded_fires k x y (constant_is ns s a x ha ex) (constant_is ns s b y hb ey)

    pub fold_fires : (k : ℕ) → Fires ns (Q k) (constant_fold l ns k a b)
    unfolding constant_fold
    fold_fires k = both_fire k (constant_value (at ns a)) (constant_value (at ns b)) refl refl

    mul_at : (w o : ℕ) → w < length ns → o < length ns → Replaces (binary 4 p f (formula ns w) (formula ns o)) (binary 4 p f (formula ns a) (formula ns b))
        → (c : Option Float) (pq : Option (ℕ × ℕ)) → constant_value (at ns o) ≡ c → pair_of 4 (at ns w) ≡ pq → Fires ns (Q 4) (mul_merge l ns c pq)
    mul_at w o hw ho g none pq ec ep = tt
    mul_at w o hw ho g (some c) none ec ep = tt
    mul_at w o hw ho g (some c) (some pq) ec ep =
        merges_mul p f w o c (constant_is ns s o c ho ec) (binary 4 p f (formula ns a) (formula ns b)) pq (pair_c ns s 4 w pq hw ep) g (constant_value (at ns pq.0)) (constant_value (at ns pq.1)) refl refl

    add_at : (c : Option Float) (pq : Option (ℕ × ℕ)) → constant_value (at ns b) ≡ c → pair_of 2 (at ns a) ≡ pq → Fires ns (Q 2) (add_merge l ns c pq)
    add_at none pq ec ep = tt
    add_at (some c) none ec ep = tt
    add_at (some c) (some pq) ec ep =
        merges_add p f a b c (constant_is ns s b c hb ec) (binary 2 p f (formula ns a) (formula ns b)) pq (pair_c ns s 2 a pq ha ep) (replaces_refl (binary 2 p f (formula ns a) (formula ns b))) (constant_value (at ns pq.0)) (constant_value (at ns pq.1)) refl refl

    mul_merges : Fires ns (Q 4) (mul_coef_merge l ns a b)
    unfolding mul_coef_merge
    mul_merges =
        or_fires ns (Q 4) (mul_merge l ns (constant_value (at ns b)) (pair_of 4 (at ns a))) (mul_merge l ns (constant_value (at ns a)) (pair_of 4 (at ns b)))
        (mul_at a b ha hb (replaces_refl (binary 4 p f (formula ns a) (formula ns b))) (constant_value (at ns b)) (pair_of 4 (at ns a)) refl refl)
        (mul_at b a hb ha (mul_swap p p f f (formula ns a) (formula ns b)) (constant_value (at ns a)) (pair_of 4 (at ns b)) refl refl)

    add_merges : Fires ns (Q 2) (add_coef_merge l ns a b)
    unfolding add_coef_merge
    add_merges = add_at (constant_value (at ns b)) (pair_of 2 (at ns a)) refl refl

    merge_fires : (k : ℕ) → Fires ns (Q k) (merges l ns k a b)
    unfolding merges
    merge_fires k =
        cond_fires ns (Q k) (eqb k 4) (mul_coef_merge l ns a b) (cond (eqb k 2) (add_coef_merge l ns a b) none) (kinded k 4 (mul_coef_merge l ns a b) mul_merges)
        (cond_fires ns (Q k) (eqb k 2) (add_coef_merge l ns a b) none (kinded k 2 (add_coef_merge l ns a b) add_merges) tt)

  -- ---- all patterns
  pub neg_fires : (p f a : ℕ) → a < length ns → Fires ns (λ ms i. Replaces (formula ms i) (tree 8 p f (cons (formula ns a) nil))) (neg_double ns a)
  neg_fires p f a ha = cond_fires ns _ (eqb (at ns a).kind 8) _ _ (λ e. go e (at ns a).children refl) tt
    where
      n : Node
      n = at ns a

      go : eqb n.kind 8 ≡ true → (ks : List ℕ) → n.children ≡ ks → Fires ns (λ ms i. Replaces (formula ms i) (tree 8 p f (cons (formula ns a) nil))) (only_child ns ks)
      go e [] ek = tt
      go e (c ∷ []) ek =
          let t : formula ns a ≡ tree 8 n.payload n.flags (cons (formula ns c) nil) =
          opened ns a ha (s a ha).low ∙ ap (λ k. tree k n.payload n.flags (forest (formula ns) n.children)) (eqb_is n.kind 8 e) ∙ ap (λ ks. tree 8 n.payload n.flags (forest (formula ns) ks)) ek in
          let low : Lower a (c ∷ []) = subst (Lower a) ek (s a ha).low in
          (stay ns s, omega (arith, low.0), subst (λ u. Replaces (formula ns c) (tree 8 p f (cons u nil))) (sym t) (neg_neg p f n.payload n.flags (formula ns c)))
      go e (c ∷ d ∷ r) ek = tt

  pub all_fire : (k p f : ℕ) (vs : List ℕ) → Lower (length ns) vs → Fires ns (λ ms i. Replaces (formula ms i) (tree k p f (forest (formula ns) vs))) (try_apply l ns k vs)
  unfolding try_apply
  all_fire k p f [] low = tt
  all_fire k p f (a ∷ []) low =
      cond_fires ns (λ ms i. Replaces (formula ms i) (tree k p f (cons (formula ns a) nil))) (eqb k 8) (neg_double ns a) none (λ e. subst (λ j. Fires ns (λ ms i. Replaces (formula ms i) (tree j p f (cons (formula ns a) nil))) (neg_double ns a)) (sym (eqb_is k 8 e)) (neg_fires p f a low.0)) tt
  all_fire k p f (a ∷ b ∷ []) low =
      let ha = low.0 in
      let hb = low.1.0 in
      let goal : List Node → ℕ → Type 0 = λ ms i. Replaces (formula ms i) (binary k p f (formula ns a) (formula ns b)) in
      or_fires ns goal (identities l ns k a b) (or_else (constant_fold l ns k a b) (merges l ns k a b)) (id_fires p f a b ha hb k)
      (or_fires ns goal (constant_fold l ns k a b) (merges l ns k a b) (fold_fires p f a b ha hb k) (merge_fires p f a b ha hb k))
  all_fire k p f (a ∷ b ∷ c ∷ r) low = tt

  -- ---- rebuilding
  pub rebuilds : (i : ℕ) (vs : List ℕ) → i < length ns → Pairs Replaces ns vs (at ns i).children → Result ns (λ ms j. Replaces (formula ms j) (formula ns i)) (rebuild_or_match l ns i vs)
  unfolding rebuild_or_match
  rebuilds i vs hi ps =
      let n = at ns i in
      rebuilt_stands Replaces replaces_refl (λ a b c. replaces_trans) replaces_cong l ns s i vs hi ps (try_apply l ns n.kind vs)
      (all_fire n.kind n.payload 0 vs (pairs_lower Replaces ns vs n.children ps))
