-- The strict patterns: each is a case of one of patterns.rs or of its fold, so that what it answers may stand for the node in the sense of the exact kind.
use Prim.Native.Nat.{ℕ, ◌<◌}
use mathlib.Core.Path.{◌≡◌, refl, sym, ap, ◌∙◌, subst}
use mathlib.Core.Bool.{Bool, true, false, cond, ◌&&◌}
use mathlib.Core.List.{List, [], ◌∷◌}
use mathlib.Core.Option.{Option, none, some}
use lib.ListN.{length}
use lib.Dec.{eqb}
use lib.Ieee.{binary64, of_bits, eq}
use Rattle.definitions.specs.Node.{Node, at}
use Rattle.definitions.specs.Intern.{Lent, Built, built}
use Rattle.definitions.specs.Patterns.{constant_value, is_zero, is_one, or_else, when, neg_double, constant_fold}
use Rattle.definitions.specs.Strict.{minus_zero_bits, plus_zero_bits, one_bits, is_constant_of, strict_sum, strict_difference, strict_product, strict_quotient, strict_identities, strict_apply}
use Rattle.definitions.specs.Walk.{rebuild_strictly}
use Rattle.definitions.specs.Formula.{tree, nil, cons, forest, formula}
use Rattle.definitions.proofs.Stable.{Lower}
use Rattle.definitions.proofs.Intern.{Sound, Result, stay}
use Rattle.definitions.proofs.Refine.{Replaces, replaces_refl, replaces_trans, replaces_cong}
use Rattle.definitions.proofs.Walk.{Pairs}
use Rattle.definitions.proofs.Results.{Fires, or_fires, if_fires, cond_fires, and_true, eqb_is}
use Rattle.definitions.proofs.Rebuilding.{rebuilt_stands, pairs_lower}
use Rattle.definitions.proofs.Trees.{FloatLaws, binary, add_zero_left, add_zero_right, sub_zero, mul_one_left, mul_one_right}
use Rattle.definitions.proofs.Patterns.{constant_is, heavy, no_div, Q, is_zero_lem, is_one_lem, kinded, fold_fires, neg_fires}

-- ---- constants told by their bits

pub constant_bits : (b : ℕ) (n : Node) → is_constant_of b n ≡ true → constant_value n ≡ some (of_bits binary64 b)
unfolding constant_value
constant_bits b n e =
    let q = and_true (eqb n.kind 1) (eqb n.payload b) e in
    ap (λ (t : Bool). cond t (some (of_bits binary64 n.payload)) none) q.0 ∙ ap (λ (p : ℕ). some (of_bits binary64 p)) (eqb_is n.payload b q.1)

minus_zero_lem : is_zero (some (of_bits binary64 minus_zero_bits)) ≡ true
unfolding of_bits eq
minus_zero_lem = refl

plus_zero_lem : is_zero (some (of_bits binary64 plus_zero_bits)) ≡ true
unfolding of_bits eq
plus_zero_lem = refl

one_one : is_one (some (of_bits binary64 one_bits)) ≡ true
unfolding of_bits eq
one_one = refl

module _ (L : FloatLaws) (l : Lent) (ns : List Node) (s : Sound ns) where
  module _ (p f a b : ℕ) (ha : a < length ns) (hb : b < length ns) where
    abbrev Stands : ℕ → List Node → ℕ → Type 0
    Stands k ms i = Replaces (formula ms i) (binary k p f (formula ns a) (formula ns b))

    zero_at : (c bits : ℕ) → is_zero (some (of_bits binary64 bits)) ≡ true → is_constant_of bits (at ns c) ≡ true → is_zero (constant_value (at ns c)) ≡ true
    zero_at c bits z e = ap is_zero (constant_bits bits (at ns c) e) ∙ z

    one_at : (c : ℕ) → is_constant_of one_bits (at ns c) ≡ true → is_one (constant_value (at ns c)) ≡ true
    one_at c e = ap is_one (constant_bits one_bits (at ns c) e) ∙ one_one

    sum_fires : Fires ns (Stands 2) (strict_sum ns a b)
    unfolding strict_sum
    sum_fires = or_fires ns (Stands 2) (when (is_constant_of minus_zero_bits (at ns b)) (built ns a)) (when (is_constant_of minus_zero_bits (at ns a)) (built ns b))
        (if_fires ns (Stands 2) (is_constant_of minus_zero_bits (at ns b)) (built ns a) (λ e. (stay ns s, ha, add_zero_right p f (formula ns a) (formula ns b) (is_zero_lem L l ns s p f a b ha hb b hb (zero_at b minus_zero_bits minus_zero_lem e)))))
        (if_fires ns (Stands 2) (is_constant_of minus_zero_bits (at ns a)) (built ns b) (λ e. (stay ns s, hb, add_zero_left p f (formula ns a) (formula ns b) (is_zero_lem L l ns s p f a b ha hb a ha (zero_at a minus_zero_bits minus_zero_lem e)))))

    difference_fires : Fires ns (Stands 3) (strict_difference ns a b)
    unfolding strict_difference
    difference_fires = if_fires ns (Stands 3) (is_constant_of plus_zero_bits (at ns b)) (built ns a) (λ e. (stay ns s, ha, sub_zero p f (formula ns a) (formula ns b) (is_zero_lem L l ns s p f a b ha hb b hb (zero_at b plus_zero_bits plus_zero_lem e))))

    product_fires : Fires ns (Stands 4) (strict_product ns a b)
    unfolding strict_product
    product_fires = or_fires ns (Stands 4) (when (is_constant_of one_bits (at ns a)) (built ns b)) (when (is_constant_of one_bits (at ns b)) (built ns a))
        (if_fires ns (Stands 4) (is_constant_of one_bits (at ns a)) (built ns b) (λ e. (stay ns s, hb, mul_one_left p f (formula ns a) (formula ns b) (heavy ns s a ha) (is_one_lem L l ns s p f a b ha hb a ha (one_at a e)))))
        (if_fires ns (Stands 4) (is_constant_of one_bits (at ns b)) (built ns a) (λ e. (stay ns s, ha, mul_one_right p f (formula ns a) (formula ns b) (heavy ns s b hb) (is_one_lem L l ns s p f a b ha hb b hb (one_at b e)))))

    quotient_fires : Fires ns (Stands 5) (strict_quotient ns a b)
    unfolding strict_quotient
    quotient_fires = if_fires ns (Stands 5) (is_constant_of one_bits (at ns b)) (built ns a) (λ e. (stay ns s, ha, no_div p f (formula ns a) (formula ns b) (formula ns a)))

    for_kind : (k j : ℕ) (m : Option Built) → Fires ns (Stands j) m → eqb k j ≡ true → Fires ns (Stands k) m
    for_kind k j m x e = subst (λ i. Fires ns (Stands i) m) (sym (eqb_is k j e)) x

    identities_fire : (k : ℕ) → Fires ns (Stands k) (strict_identities ns k a b)
    unfolding strict_identities
    identities_fire k =
        cond_fires ns (Stands k) (eqb k 2) (strict_sum ns a b) (cond (eqb k 3) (strict_difference ns a b) (cond (eqb k 4) (strict_product ns a b) (cond (eqb k 5) (strict_quotient ns a b) none))) (for_kind k 2 (strict_sum ns a b) sum_fires)
        (cond_fires ns (Stands k) (eqb k 3) (strict_difference ns a b) (cond (eqb k 4) (strict_product ns a b) (cond (eqb k 5) (strict_quotient ns a b) none)) (for_kind k 3 (strict_difference ns a b) difference_fires)
        (cond_fires ns (Stands k) (eqb k 4) (strict_product ns a b) (cond (eqb k 5) (strict_quotient ns a b) none) (for_kind k 4 (strict_product ns a b) product_fires)
        (cond_fires ns (Stands k) (eqb k 5) (strict_quotient ns a b) none (for_kind k 5 (strict_quotient ns a b) quotient_fires) tt)))

  strict_fires : (k p f : ℕ) (vs : List ℕ) → Lower (length ns) vs → Fires ns (λ ms i. Replaces (formula ms i) (tree k p f (forest (formula ns) vs))) (strict_apply l ns k vs)
  unfolding strict_apply
  strict_fires k p f [] low = tt
  strict_fires k p f (a ∷ []) low =
      cond_fires ns (λ ms i. Replaces (formula ms i) (tree k p f (cons (formula ns a) nil))) (eqb k 8) (neg_double ns a) none (λ e. subst (λ j. Fires ns (λ ms i. Replaces (formula ms i) (tree j p f (cons (formula ns a) nil))) (neg_double ns a)) (sym (eqb_is k 8 e)) (neg_fires L l ns s p f a low.0)) tt
  strict_fires k p f (a ∷ b ∷ []) low =
      or_fires ns (λ ms i. Replaces (formula ms i) (binary k p f (formula ns a) (formula ns b))) (strict_identities ns k a b) (constant_fold l ns k a b)
      (identities_fire p f a b low.0 low.1.0 k) (fold_fires L l ns s p f a b low.0 low.1.0 k)
  strict_fires k p f (a ∷ b ∷ c ∷ r) low = tt

  pub strict_rebuilds : (i : ℕ) (vs : List ℕ) → i < length ns → Pairs Replaces ns vs (at ns i).children → Result ns (λ ms j. Replaces (formula ms j) (formula ns i)) (rebuild_strictly l ns i vs)
  unfolding rebuild_strictly
  strict_rebuilds i vs hi ps =
      let n = at ns i in
      rebuilt_stands Replaces replaces_refl (λ a b c. replaces_trans) replaces_cong l ns s i vs hi ps (strict_apply l ns n.kind vs)
      (strict_fires n.kind n.payload 0 vs (pairs_lower Replaces ns vs n.children ps))
