-- A strict walk keeps the bits of every evaluation.
use Prim.Native.Nat.{ℕ, ◌<◌}
use mathlib.Core.Path.{◌≡◌, refl, sym, ap, ◌∙◌, subst}
use mathlib.Core.Bool.{Bool, true, false, cond, ◌&&◌, not}
use mathlib.Core.List.{List, [], ◌∷◌, map}
use mathlib.Core.Option.{Option, none, some}
use lib.ListN.{length}
use native.Mathlib.Omega.{arith}
use lib.Dec.{T, eqb}
use lib.Ieee.{Float, nan, inf, fin, binary64, of_bits, to_bits, add, sub, mul, div, neg, eq, fits}
use lib.Ieee.Bits.{of_bits-to_bits, of_bits-fits}
use lib.Ieee.Fits.{add-fits, sub-fits, mul-fits, div-fits, neg-fits, nan-fits, cond-fits}
use Rattle.definitions.specs.Node.{Node, at}
use Rattle.definitions.specs.Intern.{Lent, Built, built}
use Rattle.definitions.specs.Patterns.{constant_value, intern_constant, zero64, or_else, when, only_child, neg_double, binary64_result, unless_nan, fold, folded, fold_both, constant_fold}
use Rattle.definitions.specs.Strict.{minus_zero_bits, plus_zero_bits, one_bits, is_constant_of, strict_sum, strict_difference, strict_product, strict_quotient, strict_identities, strict_apply}
use Rattle.definitions.specs.Walk.{strict, rebuild_as, rebuild_strictly}
use Rattle.definitions.specs.Machine.{simplify_call}
use Rattle.definitions.specs.Formula.{Tree, tree, Forest, nil, cons, forest, formula}
use Rattle.definitions.specs.Evaluation.{Evaluation, left_to_right, of_several, of_two, of_one, evaluate_node, evaluate, evaluate_all, bits_of}
use Rattle.definitions.proofs.Stable.{Lower, opened}
use Rattle.definitions.proofs.Intern.{Sound, Result, stay}
use Rattle.definitions.proofs.Walk.{Pairs}
use Rattle.definitions.proofs.Results.{result_map, Fires, or_fires, if_fires, cond_fires, and_true, eqb_is}
use Rattle.definitions.proofs.Rebuilding.{rebuilt_stands, pairs_lower}
use Rattle.definitions.proofs.Trees.{binary, constant_tree}
use Rattle.definitions.proofs.Patterns.{unless_nan_lem, constantly}
use Rattle.definitions.proofs.StrictPatterns.{constant_bits}
use Rattle.definitions.proofs.Calls.{Done}
use Rattle.definitions.proofs.SimplifyCalls.{WalkSays, walk_says}
use Rattle.definitions.proofs.NeutralOperands.{minus_zero, plus_zero, plus_one, add_right, add_left, sub_right, mul_right, mul_left, div_right, neg_neg}

-- ---- every value is a binary64

abbrev AllFit : List Float → Type 0
AllFit [] = Unit {0}
AllFit (x ∷ xs) = T (fits binary64 x) × AllFit xs

several_fit : (f : Float → Float → Float) → ((x y : Float) → T (fits binary64 (f x y))) → (x : Float) (ys : List Float) → T (fits binary64 x) → T (fits binary64 (left_to_right f x ys))
several_fit f h x [] t = t
several_fit f h x (y ∷ ys) t = several_fit f h (f x y) ys (h x y)

all_fit : (f : Float → Float → Float) → ((x y : Float) → T (fits binary64 (f x y))) → (xs : List Float) → AllFit xs → T (fits binary64 (of_several f xs))
all_fit f h [] t = nan-fits binary64
all_fit f h (x ∷ xs) t = several_fit f h x xs t.0

two_fit : (f : Float → Float → Float) → ((x y : Float) → T (fits binary64 (f x y))) → (xs : List Float) → T (fits binary64 (of_two f xs))
two_fit f h [] = nan-fits binary64
two_fit f h (x ∷ []) = nan-fits binary64
two_fit f h (x ∷ y ∷ []) = h x y
two_fit f h (x ∷ y ∷ z ∷ r) = nan-fits binary64

one_fits : (xs : List Float) → AllFit xs → T (fits binary64 (of_one neg xs))
one_fits [] t = nan-fits binary64
one_fits (x ∷ []) t = neg-fits binary64 x t.0
one_fits (x ∷ y ∷ r) t = nan-fits binary64

node_fits : (e : Evaluation) (k p : ℕ) (vs : List Float) → AllFit vs → T (fits binary64 (evaluate_node e k p vs))
node_fits e k p vs t =
    cond-fits binary64 (eqb k 0) _ _ (of_bits-fits binary64 (e.variables p))
    (cond-fits binary64 (eqb k 1) _ _ (of_bits-fits binary64 p)
    (cond-fits binary64 (eqb k 2) _ _ (all_fit (add binary64) (add-fits binary64) vs t)
    (cond-fits binary64 (eqb k 3) _ _ (two_fit (sub binary64) (sub-fits binary64) vs)
    (cond-fits binary64 (eqb k 4) _ _ (all_fit (mul binary64) (mul-fits binary64) vs t)
    (cond-fits binary64 (eqb k 5) _ _ (two_fit (div binary64) (div-fits binary64) vs)
    (cond-fits binary64 (eqb k 8) _ _ (one_fits vs t) (of_bits-fits binary64 (e.functions k p (map (to_bits binary64) vs)))))))))

mutual
  unfolding evaluate

  value_fits : (t : Tree) (e : Evaluation) → T (fits binary64 (evaluate e t))
  value_fits (tree k p f c) e = node_fits e k p (evaluate_all e c) (values_fit c e)

  values_fit : (c : Forest) (e : Evaluation) → AllFit (evaluate_all e c)
  values_fit nil e = tt
  values_fit (cons t c) e = (value_fits t e, values_fit c e)

-- ---- formulas of one value under every evaluation

abbrev pub SameValue : Tree → Tree → Type 0
SameValue t u = (e : Evaluation) → evaluate e t ≡ evaluate e u

same_refl : (t : Tree) → SameValue t t
same_refl t e = refl

same_trans : (a b c : Tree) → SameValue a b → SameValue b c → SameValue a c
same_trans a b c f g e = f e ∙ g e

pairs_values : (ns : List Node) (vs ks : List ℕ) → Pairs SameValue ns vs ks → (e : Evaluation) → evaluate_all e (forest (formula ns) vs) ≡ evaluate_all e (forest (formula ns) ks)
unfolding evaluate
pairs_values ns [] [] p e = refl
pairs_values ns [] (k ∷ ks) p e = absurd p
pairs_values ns (v ∷ vs) [] p e = absurd p
pairs_values ns (v ∷ vs) (k ∷ ks) p e = let a = p.0.1 e in let b = pairs_values ns vs ks p.1 e in λ i. a i ∷ b i

same_cong : (ns : List Node) (k p f f' : ℕ) (vs ks : List ℕ) → Pairs SameValue ns vs ks → SameValue (tree k p f' (forest (formula ns) vs)) (tree k p f (forest (formula ns) ks))
unfolding evaluate
same_cong ns k p f f' vs ks h e = ap (evaluate_node e k p) (pairs_values ns vs ks h e)

-- ---- constants

minus_zero_lem : of_bits binary64 minus_zero_bits ≡ minus_zero
unfolding of_bits
minus_zero_lem = refl

plus_zero_lem : of_bits binary64 plus_zero_bits ≡ plus_zero
unfolding of_bits
plus_zero_lem = refl

plus_one_lem : of_bits binary64 one_bits ≡ plus_one
unfolding of_bits
plus_one_lem = refl

constant_tree_value : (z : Float) → T (fits binary64 z) → (e : Evaluation) → evaluate e (constant_tree z) ≡ z
unfolding evaluate
constant_tree_value z h e = of_bits-to_bits binary64 z h

constant_value_lem : (ns : List Node) → Sound ns → (a : ℕ) → a < length ns → (x : Float) → constant_value (at ns a) ≡ some x → (e : Evaluation) → evaluate e (formula ns a) ≡ x
unfolding constant_value evaluate
constant_value_lem ns s a h x q e = go (eqb n.kind 1) refl q
  where
    n : Node
    n = at ns a

    go : (b : Bool) → eqb n.kind 1 ≡ b → cond b (some (of_bits binary64 n.payload)) none ≡ some x → evaluate e (formula ns a) ≡ x
    go true k q =
        let z : of_bits binary64 n.payload ≡ x = cc in
        ap (evaluate e) (opened ns a h (s a h).low) ∙ ap (λ j. evaluate e (tree j n.payload n.flags (forest (formula ns) n.children))) (eqb_is n.kind 1 k) ∙ z
    go false k q = let z : ◌≡◌ {A = ℕ} 0 1 = cc in absurd (omega arith)

-- the value of a constant told by its bits
bits_value : (ns : List Node) → Sound ns → (a : ℕ) → a < length ns → (b : ℕ) (x : Float) → of_bits binary64 b ≡ x → is_constant_of b (at ns a) ≡ true
    → (e : Evaluation) → evaluate e (formula ns a) ≡ x
bits_value ns s a h b x i q e = constant_value_lem ns s a h (of_bits binary64 b) (constant_bits b (at ns a) q) e ∙ i

-- ---- the patterns

module _ (l : Lent) (ns : List Node) (s : Sound ns) where
  module _ (p f a b : ℕ) (ha : a < length ns) (hb : b < length ns) where
    abbrev A : Evaluation → Float
    A e = evaluate e (formula ns a)

    abbrev B : Evaluation → Float
    B e = evaluate e (formula ns b)

    abbrev Node2 : ℕ → Tree
    Node2 k = binary k p f (formula ns a) (formula ns b)

    abbrev Keeps : ℕ → List Node → ℕ → Type 0
    Keeps k ms j = SameValue (formula ms j) (binary k p f (formula ns a) (formula ns b))

    -- an operand that has the node's value
    left_is : (k : ℕ) → ((e : Evaluation) → evaluate e (Node2 k) ≡ A e) → Result ns (Keeps k) (built ns a)
    left_is k h = (stay ns s, ha, λ e. sym (h e))

    right_is : (k : ℕ) → ((e : Evaluation) → evaluate e (Node2 k) ≡ B e) → Result ns (Keeps k) (built ns b)
    right_is k h = (stay ns s, hb, λ e. sym (h e))

    sum_keeps : Fires ns (Keeps 2) (strict_sum ns a b)
    unfolding strict_sum evaluate
    sum_keeps = or_fires ns (Keeps 2) (when (is_constant_of minus_zero_bits (at ns b)) (built ns a)) (when (is_constant_of minus_zero_bits (at ns a)) (built ns b))
        (if_fires ns (Keeps 2) (is_constant_of minus_zero_bits (at ns b)) (built ns a)
        (λ q. left_is 2 (λ e. ap (add binary64 (A e)) (bits_value ns s b hb minus_zero_bits minus_zero minus_zero_lem q e) ∙ add_right (A e) (value_fits (formula ns a) e))))
        (if_fires ns (Keeps 2) (is_constant_of minus_zero_bits (at ns a)) (built ns b)
        (λ q. right_is 2 (λ e. ap (λ x. add binary64 x (B e)) (bits_value ns s a ha minus_zero_bits minus_zero minus_zero_lem q e) ∙ add_left (B e) (value_fits (formula ns b) e))))

    difference_keeps : Fires ns (Keeps 3) (strict_difference ns a b)
    unfolding strict_difference evaluate
    difference_keeps = if_fires ns (Keeps 3) (is_constant_of plus_zero_bits (at ns b)) (built ns a)
        (λ q. left_is 3 (λ e. ap (sub binary64 (A e)) (bits_value ns s b hb plus_zero_bits plus_zero plus_zero_lem q e) ∙ sub_right (A e) (value_fits (formula ns a) e)))

    product_keeps : Fires ns (Keeps 4) (strict_product ns a b)
    unfolding strict_product evaluate
    product_keeps = or_fires ns (Keeps 4) (when (is_constant_of one_bits (at ns a)) (built ns b)) (when (is_constant_of one_bits (at ns b)) (built ns a))
        (if_fires ns (Keeps 4) (is_constant_of one_bits (at ns a)) (built ns b)
        (λ q. right_is 4 (λ e. ap (λ x. mul binary64 x (B e)) (bits_value ns s a ha one_bits plus_one plus_one_lem q e) ∙ mul_left (B e) (value_fits (formula ns b) e))))
        (if_fires ns (Keeps 4) (is_constant_of one_bits (at ns b)) (built ns a)
        (λ q. left_is 4 (λ e. ap (mul binary64 (A e)) (bits_value ns s b hb one_bits plus_one plus_one_lem q e) ∙ mul_right (A e) (value_fits (formula ns a) e))))

    quotient_keeps : Fires ns (Keeps 5) (strict_quotient ns a b)
    unfolding strict_quotient evaluate
    quotient_keeps = if_fires ns (Keeps 5) (is_constant_of one_bits (at ns b)) (built ns a)
        (λ q. left_is 5 (λ e. ap (div binary64 (A e)) (bits_value ns s b hb one_bits plus_one plus_one_lem q e) ∙ div_right (A e) (value_fits (formula ns a) e)))

    for_kind : (k j : ℕ) (m : Option Built) → Fires ns (Keeps j) m → eqb k j ≡ true → Fires ns (Keeps k) m
    for_kind k j m x e = subst (λ i. Fires ns (Keeps i) m) (sym (eqb_is k j e)) x

    identities_keep : (k : ℕ) → Fires ns (Keeps k) (strict_identities ns k a b)
    unfolding strict_identities
    identities_keep k =
        cond_fires ns (Keeps k) (eqb k 2) (strict_sum ns a b) (cond (eqb k 3) (strict_difference ns a b) (cond (eqb k 4) (strict_product ns a b) (cond (eqb k 5) (strict_quotient ns a b) none))) (for_kind k 2 (strict_sum ns a b) sum_keeps)
        (cond_fires ns (Keeps k) (eqb k 3) (strict_difference ns a b) (cond (eqb k 4) (strict_product ns a b) (cond (eqb k 5) (strict_quotient ns a b) none)) (for_kind k 3 (strict_difference ns a b) difference_keeps)
        (cond_fires ns (Keeps k) (eqb k 4) (strict_product ns a b) (cond (eqb k 5) (strict_quotient ns a b) none) (for_kind k 4 (strict_product ns a b) product_keeps)
        (cond_fires ns (Keeps k) (eqb k 5) (strict_quotient ns a b) none (for_kind k 5 (strict_quotient ns a b) quotient_keeps) tt)))

    -- a result that has the node's value
    abbrev ResultKeeps : ℕ → Option Float → Type 0
    ResultKeeps k none = Unit {0}
    ResultKeeps k (some z) = T (fits binary64 z) × ((e : Evaluation) → z ≡ evaluate e (Node2 k))

    cond_keeps : (k : ℕ) (c : Bool) (x y : Option Float) → (c ≡ true → ResultKeeps k x) → ResultKeeps k y → ResultKeeps k (cond c x y)
    cond_keeps k true x y h g = h refl
    cond_keeps k false x y h g = g

    kind_keeps : (k j : ℕ) (o : Option Float) → ResultKeeps j o → eqb k j ≡ true → ResultKeeps k o
    kind_keeps k j o h e = subst (λ i. ResultKeeps i o) (sym (eqb_is k j e)) h

    result_value : (k : ℕ) (x y : Float) → ((e : Evaluation) → A e ≡ x) → ((e : Evaluation) → B e ≡ y) → ResultKeeps k (binary64_result k x y)
    unfolding binary64_result evaluate
    result_value k x y ea eb =
        cond_keeps k (eqb k 2) (some (add binary64 x y)) _ (kind_keeps k 2 (some (add binary64 x y)) (add-fits binary64 x y, λ e i. add binary64 (sym (ea e) i) (sym (eb e) i)))
        (cond_keeps k (eqb k 3) (some (sub binary64 x y)) _ (kind_keeps k 3 (some (sub binary64 x y)) (sub-fits binary64 x y, λ e i. sub binary64 (sym (ea e) i) (sym (eb e) i)))
        (cond_keeps k (eqb k 4) (some (mul binary64 x y)) _ (kind_keeps k 4 (some (mul binary64 x y)) (mul-fits binary64 x y, λ e i. mul binary64 (sym (ea e) i) (sym (eb e) i)))
        (cond_keeps k (eqb k 5 && not (eq y zero64)) (some (div binary64 x y)) none
        (λ q. kind_keeps k 5 (some (div binary64 x y)) (div-fits binary64 x y, λ e i. div binary64 (sym (ea e) i) (sym (eb e) i)) (and_true _ _ q).0) tt)))

    result_keeps : (k : ℕ) (o : Option Float) → ResultKeeps k o → Fires ns (Keeps k) (folded l ns (unless_nan o))
    result_keeps k none h = tt
    result_keeps k (some z) h = unless_nan_lem ns (Keeps k) (folded l ns) z tt (λ n.
        result_map ns (λ ms i. formula ms i ≡ constant_tree z) (Keeps k) (intern_constant l ns z)
        (λ ms i st q e. ap (evaluate e) q ∙ constant_tree_value z h.0 e ∙ h.1 e) (constantly l ns z s (h.0, n)))

    both_keep : (k : ℕ) (x y : Option Float) → constant_value (at ns a) ≡ x → constant_value (at ns b) ≡ y → Fires ns (Keeps k) (fold_both l ns k x y)
    unfolding fold
    both_keep k none y ex ey = tt
    both_keep k (some x) none ex ey = tt
    both_keep k (some x) (some y) ex ey =
        result_keeps k (binary64_result k x y) (result_value k x y (constant_value_lem ns s a ha x ex) (constant_value_lem ns s b hb y ey))

    fold_keeps : (k : ℕ) → Fires ns (Keeps k) (constant_fold l ns k a b)
    unfolding constant_fold
    fold_keeps k = both_keep k (constant_value (at ns a)) (constant_value (at ns b)) refl refl

  neg_keeps : (p f a : ℕ) → a < length ns → Fires ns (λ ms j. SameValue (formula ms j) (tree 8 p f (cons (formula ns a) nil))) (neg_double ns a)
  unfolding evaluate
  neg_keeps p f a ha = cond_fires ns (λ ms j. SameValue (formula ms j) (tree 8 p f (cons (formula ns a) nil))) (eqb (at ns a).kind 8) _ _ (λ e. go e (at ns a).children refl) tt
    where
      n : Node
      n = at ns a

      go : eqb n.kind 8 ≡ true → (ks : List ℕ) → n.children ≡ ks → Fires ns (λ ms j. SameValue (formula ms j) (tree 8 p f (cons (formula ns a) nil))) (only_child ns ks)
      go q [] ek = tt
      go q (c ∷ []) ek =
          let t : formula ns a ≡ tree 8 n.payload n.flags (cons (formula ns c) nil) =
          opened ns a ha (s a ha).low ∙ ap (λ k. tree k n.payload n.flags (forest (formula ns) n.children)) (eqb_is n.kind 8 q) ∙ ap (λ ks. tree 8 n.payload n.flags (forest (formula ns) ks)) ek in
          let low : Lower a (c ∷ []) = subst (Lower a) ek (s a ha).low in
          (stay ns s, omega (arith, low.0), λ e. sym (ap (λ u. neg (evaluate e u)) t ∙ neg_neg (evaluate e (formula ns c))))
      go q (c ∷ d ∷ r) ek = tt

  strict_keeps : (k p f : ℕ) (vs : List ℕ) → Lower (length ns) vs → Fires ns (λ ms i. SameValue (formula ms i) (tree k p f (forest (formula ns) vs))) (strict_apply l ns k vs)
  unfolding strict_apply
  strict_keeps k p f [] low = tt
  strict_keeps k p f (a ∷ []) low =
      cond_fires ns (λ ms i. SameValue (formula ms i) (tree k p f (cons (formula ns a) nil))) (eqb k 8) (neg_double ns a) none
      (λ q. subst (λ j. Fires ns (λ ms i. SameValue (formula ms i) (tree j p f (cons (formula ns a) nil))) (neg_double ns a)) (sym (eqb_is k 8 q)) (neg_keeps p f a low.0)) tt
  strict_keeps k p f (a ∷ b ∷ []) low =
      or_fires ns (λ ms i. SameValue (formula ms i) (binary k p f (formula ns a) (formula ns b))) (strict_identities ns k a b) (constant_fold l ns k a b)
      (identities_keep p f a b low.0 low.1.0 k) (fold_keeps p f a b low.0 low.1.0 k)
  strict_keeps k p f (a ∷ b ∷ c ∷ r) low = tt

-- ---- the walk

rebuilds_keep : (l : Lent) (ns : List Node) (i : ℕ) (vs : List ℕ) → Sound ns → i < length ns → Pairs SameValue ns vs (at ns i).children → Result ns (λ ms j. SameValue (formula ms j) (formula ns i)) (rebuild_as strict l ns i vs)
unfolding rebuild_strictly
rebuilds_keep l ns i vs s hi ps =
    let n = at ns i in
    rebuilt_stands SameValue same_refl same_trans same_cong l ns s i vs hi ps (strict_apply l ns n.kind vs)
    (strict_keeps l ns s n.kind n.payload 0 vs (pairs_lower SameValue ns vs n.children ps))

-- an answered strict walk's formula has the value of its root's, at every depth and budget
pub strict_says : (l : Lent) (ns : List Node) (i d b : ℕ) → Sound ns → Done ns (WalkSays SameValue ns i) (simplify_call strict l ns i d b)
strict_says l ns i d b s = walk_says SameValue same_refl strict rebuilds_keep l ns i d b s

pub bits_same : (t u : Tree) → SameValue t u → (e : Evaluation) → bits_of e t ≡ bits_of e u
bits_same t u h e = ap (to_bits binary64) (h e)
