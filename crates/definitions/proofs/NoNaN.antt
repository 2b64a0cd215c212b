-- That no NaN comes into the store, of folding, merging, rebuilding, store calls and sheets.
use Prim.Native.Nat.{ℕ, suc}
use native.Mathlib.Omega.{arith}
use mathlib.Core.Path.{◌≡◌, refl, sym, ap, ◌∙◌, subst}
use mathlib.Core.Bool.{Bool, true, false, not, ◌&&◌, cond, false≢true}
use mathlib.Core.Option.{Option, none, some}
use mathlib.Core.List.{List, [], ◌∷◌, ◌++◌}
use lib.ListN.{length}
use lib.Dec.{eqb}
use borrow.Author.Tests.{eqb-true, ne_eqb}
use lib.Ieee.{Float, nan, binary64, is_nan, nan_bits, of_bits, add, sub, mul, div, eq}
use Rattle.definitions.specs.Refusals.{bad_record}
use Rattle.definitions.specs.Node.{Node, at, constant_kind, add_kind, mul_kind}
use Rattle.definitions.specs.Intern.{Lent, Built}
use Rattle.definitions.specs.Patterns.{zero64, constant_value, pair, pair_of, binary64_result, unless_nan, fold, folded, fold_both, constant_fold, mul_left, mul_right, mul_merged, mul_merge, mul_coef_merge, add_right, add_merged, add_merge, add_coef_merge, merges, or_else, identities, try_apply}
use Rattle.definitions.specs.Walk.{rebuilt, rebuild_or_match}
use Rattle.definitions.specs.Machine.{Answer, Call, State, state, constant, store, requested, Outcome, After, on_nodes, store_call, call}
use Rattle.definitions.specs.Sheet.{call_on, operand_id, refusal_of, Ran, ran, cut, record_call, records}
use Rattle.definitions.specs.NoNaN.{FoldsToNumbers, FoldsAllNumbers, first_constant, coefficient_of, GivesNaN, folding, merging_left, merging_right, Declines, RebuildsPlainly, RefusesNaN, RecordRefusesNaN}

-- ---- folding

no_some : {A B : Type 0} (x : A) → ◌≡◌ {A = Option A} none (some x) → B
no_some x e = let z : ◌≡◌ {A = ℕ} 0 1 = cc in absurd (omega arith)

pub folds_to_numbers : FoldsToNumbers
unfolding fold
folds_to_numbers k x y z = go (binary64_result k x y)
  where
    pick : (w : Float) (b : Bool) → is_nan w ≡ b → cond b none (some w) ≡ some z → (is_nan z ≡ false) × (◌≡◌ {A = Option Float} (some w) (some z))
    pick w true h e = no_some z e
    pick w false h e = let q : w ≡ z = cc in (sym (ap is_nan q) ∙ h, e)

    go : (o : Option Float) → unless_nan o ≡ some z → (is_nan z ≡ false) × (o ≡ some z)
    go none e = no_some z e
    go (some w) e = pick w (is_nan w) refl e

pub folds_all_numbers : FoldsAllNumbers
unfolding fold
folds_all_numbers k x y z e h = ap unless_nan e ∙ ap (λ (b : Bool). cond b none (some z)) h

-- a NaN is declined
declined : (k : ℕ) (x y : Float) → binary64_result k x y ≡ some nan → fold k x y ≡ none
unfolding fold is_nan
declined k x y e = ap unless_nan e

-- ---- which nodes are constants, and which have two children of a kind

constant_kind_lem : (n : Node) (x : Float) → constant_value n ≡ some x → n.kind ≡ constant_kind
unfolding constant_value
constant_kind_lem n x = go (eqb n.kind constant_kind) refl
  where
    go : (b : Bool) → eqb n.kind constant_kind ≡ b → cond b (some (of_bits binary64 n.payload)) none ≡ some x → n.kind ≡ constant_kind
    go true e h = eqb-true n.kind constant_kind e
    go false e h = no_some x h

pair_kind : (k : ℕ) (n : Node) (pq : ℕ × ℕ) → pair_of k n ≡ some pq → n.kind ≡ k
pair_kind k n pq = go (eqb n.kind k) refl
  where
    go : (b : Bool) → eqb n.kind k ≡ b → cond b (pair n.children) none ≡ some pq → n.kind ≡ k
    go true e h = eqb-true n.kind k e
    go false e h = no_some pq h

no_constant : (n : Node) → (n.kind ≡ constant_kind → ⊥) → constant_value n ≡ none
unfolding constant_value
no_constant n h = ap (λ (b : Bool). cond b (some (of_bits binary64 n.payload)) none) (ne_eqb n.kind constant_kind h)

no_pair : (k : ℕ) (n : Node) → (n.kind ≡ k → ⊥) → pair_of k n ≡ none
no_pair k n h = ap (λ (b : Bool). cond b (pair n.children) none) (ne_eqb n.kind k h)

-- only operators have a result
no_result : (y x z : Float) → binary64_result constant_kind x y ≡ some z → ⊥
unfolding binary64_result
no_result y x z e = no_some z e

operator_kind : (k : ℕ) (x y z : Float) → binary64_result k x y ≡ some z → k ≡ constant_kind → ⊥
operator_kind k x y z e q = no_result y x z (subst (λ (j : ℕ). binary64_result j x y ≡ some z) q e)

-- ---- what does not fire

module _ (l : Lent) (ns : List Node) where
  mul_merged_lem : (c d : Float) (p q : ℕ) (x y : Option Float) → first_constant x y ≡ some d → fold mul_kind d c ≡ none → mul_merged l ns c p q x y ≡ none
  mul_merged_lem c d p q (some x) y h f = let z : d ≡ x = cc in ap (mul_left l ns q) (subst (λ w. fold mul_kind w c ≡ none) z f)
  mul_merged_lem c d p q none (some y) h f = let z : d ≡ y = cc in ap (mul_right l ns p) (subst (λ w. fold mul_kind w c ≡ none) z f)
  mul_merged_lem c d p q none none h f = refl

  add_merged_lem : (c d : Float) (p q : ℕ) (x y : Option Float) → first_constant x y ≡ some d → fold add_kind d c ≡ none → add_merged l ns c p q x y ≡ none
  add_merged_lem c d p q (some x) y h f = let z : d ≡ x = cc in ap (add_right l ns q) (subst (λ w. fold add_kind w c ≡ none) z f)
  add_merged_lem c d p q none (some y) h f = let z : d ≡ y = cc in ap (add_right l ns p) (subst (λ w. fold add_kind w c ≡ none) z f)
  add_merged_lem c d p q none none h f = refl

  mul_unpaired : (c : Option Float) (o : Option (ℕ × ℕ)) → o ≡ none → mul_merge l ns c o ≡ none
  mul_unpaired none o e = refl
  mul_unpaired (some c) o e = ap (mul_merge l ns (some c)) e

  add_unpaired : (c : Option Float) (o : Option (ℕ × ℕ)) → o ≡ none → add_merge l ns c o ≡ none
  add_unpaired none o e = refl
  add_unpaired (some c) o e = ap (add_merge l ns (some c)) e

  mul_inconstant : (c : Option Float) (o : Option (ℕ × ℕ)) → c ≡ none → mul_merge l ns c o ≡ none
  mul_inconstant c o e = ap (λ (x : Option Float). mul_merge l ns x o) e

  add_inconstant : (c : Option Float) (o : Option (ℕ × ℕ)) → c ≡ none → add_merge l ns c o ≡ none
  add_inconstant c o e = ap (λ (x : Option Float). add_merge l ns x o) e

  both_none : (x y : Option Built) → x ≡ none → y ≡ none → or_else x y ≡ none
  both_none x y e f = ap (λ (o : Option Built). or_else o y) e ∙ f

  -- a merge of the constant c with the pair's
  mul_declined : (c d : Float) (o : Option Float) (pq : ℕ × ℕ) (p : Option (ℕ × ℕ)) → o ≡ some c → p ≡ some pq → coefficient_of ns pq ≡ some d → binary64_result mul_kind d c ≡ some nan → mul_merge l ns o p ≡ none
  mul_declined c d o pq p ec ep ed r =
      ap (λ (x : Option Float). mul_merge l ns x p) ec ∙ ap (mul_merge l ns (some c)) ep
      ∙ mul_merged_lem c d pq.0 pq.1 (constant_value (at ns pq.0)) (constant_value (at ns pq.1)) ed (declined mul_kind d c r)

  add_declined : (c d : Float) (o : Option Float) (pq : ℕ × ℕ) (p : Option (ℕ × ℕ)) → o ≡ some c → p ≡ some pq → coefficient_of ns pq ≡ some d → binary64_result add_kind d c ≡ some nan → add_merge l ns o p ≡ none
  add_declined c d o pq p ec ep ed r =
      ap (λ (x : Option Float). add_merge l ns x p) ec ∙ ap (add_merge l ns (some c)) ep
      ∙ add_merged_lem c d pq.0 pq.1 (constant_value (at ns pq.0)) (constant_value (at ns pq.1)) ed (declined add_kind d c r)

  module _ (a b : ℕ) where
    -- a node of an operator's kind is no constant, and a constant has no pair
    operator_none : (k c : ℕ) (pq : ℕ × ℕ) (x y z : Float) → pair_of k (at ns c) ≡ some pq → binary64_result k x y ≡ some z → constant_value (at ns c) ≡ none
    operator_none k c pq x y z ep r = no_constant (at ns c) (λ q. operator_kind k x y z r (sym (pair_kind k (at ns c) pq ep) ∙ q))

    constant_unpaired : (k c : ℕ) (x : Float) → (constant_kind ≡ k → ⊥) → constant_value (at ns c) ≡ some x → pair_of k (at ns c) ≡ none
    constant_unpaired k c x h e = no_pair k (at ns c) (λ q. h (sym (constant_kind_lem (at ns c) x e) ∙ q))

    products_decline : GivesNaN ns mul_kind a b → mul_coef_merge l ns a b ≡ none
    unfolding mul_coef_merge
    products_decline (folding {x} {y} ex ey r) =
        both_none _ _ (mul_unpaired (constant_value (at ns b)) (pair_of mul_kind (at ns a)) (constant_unpaired mul_kind a x (λ q. omega arith) ex))
        (mul_unpaired (constant_value (at ns a)) (pair_of mul_kind (at ns b)) (constant_unpaired mul_kind b y (λ q. omega arith) ey))
    products_decline (merging_left {pq} {c} {d} ep ed ec r) =
        both_none _ _ (mul_declined c d (constant_value (at ns b)) pq (pair_of mul_kind (at ns a)) ec ep ed r)
        (mul_inconstant (constant_value (at ns a)) (pair_of mul_kind (at ns b)) (operator_none mul_kind a pq d c nan ep r))
    products_decline (merging_right {pq} {c} {d} ep ed ec r) =
        both_none _ _ (mul_inconstant (constant_value (at ns b)) (pair_of mul_kind (at ns a)) (operator_none mul_kind b pq d c nan ep r))
        (mul_declined c d (constant_value (at ns a)) pq (pair_of mul_kind (at ns b)) ec ep ed r)

    sums_decline : GivesNaN ns add_kind a b → add_coef_merge l ns a b ≡ none
    unfolding add_coef_merge
    sums_decline (folding {x} {y} ex ey r) = add_unpaired (constant_value (at ns b)) (pair_of add_kind (at ns a)) (constant_unpaired add_kind a x (λ q. omega arith) ex)
    sums_decline (merging_left {pq} {c} {d} ep ed ec r) = add_declined c d (constant_value (at ns b)) pq (pair_of add_kind (at ns a)) ec ep ed r
    sums_decline (merging_right {pq} {c} {d} ep ed ec r) = add_inconstant (constant_value (at ns b)) (pair_of add_kind (at ns a)) (operator_none add_kind b pq d c nan ep r)

    merges_decline : (k : ℕ) → GivesNaN ns k a b → merges l ns k a b ≡ none
    unfolding merges
    merges_decline k g = product (eqb k mul_kind) refl
      where
        sum : (t : Bool) → eqb k add_kind ≡ t → cond t (add_coef_merge l ns a b) none ≡ none
        sum true e = sums_decline (subst (λ (j : ℕ). GivesNaN ns j a b) (eqb-true k add_kind e) g)
        sum false e = refl

        product : (t : Bool) → eqb k mul_kind ≡ t → cond t (mul_coef_merge l ns a b) (cond (eqb k add_kind) (add_coef_merge l ns a b) none) ≡ none
        product true e = products_decline (subst (λ (j : ℕ). GivesNaN ns j a b) (eqb-true k mul_kind e) g)
        product false e = sum (eqb k add_kind) refl

    unfolded : (k : ℕ) (x y : Option Float) → y ≡ none → fold_both l ns k x y ≡ none
    unfolded k none y e = refl
    unfolded k (some x) y e = ap (fold_both l ns k (some x)) e

    folding_declines : (k : ℕ) → GivesNaN ns k a b → constant_fold l ns k a b ≡ none
    unfolding constant_fold
    folding_declines k (folding {x} {y} ex ey r) =
        ap (λ (o : Option Float). fold_both l ns k o (constant_value (at ns b))) ex ∙ ap (fold_both l ns k (some x)) ey ∙ ap (folded l ns) (declined k x y r)
    folding_declines k (merging_left {pq} {c} {d} ep ed ec r) = ap (λ (o : Option Float). fold_both l ns k o (constant_value (at ns b))) (operator_none k a pq d c nan ep r)
    folding_declines k (merging_right {pq} {c} {d} ep ed ec r) = unfolded k (constant_value (at ns a)) (constant_value (at ns b)) (operator_none k b pq d c nan ep r)

pub declines : Declines
unfolding try_apply
declines l ns k a b g e = both_none l ns (identities l ns k a b) _ e (both_none l ns (constant_fold l ns k a b) _ (folding_declines l ns a b k g) (merges_decline l ns a b k g))

pub rebuilds_plainly : RebuildsPlainly
unfolding rebuild_or_match
rebuilds_plainly l ns i a b g e = ap (rebuilt l ns i (a ∷ b ∷ [])) (declines l ns (at ns i).kind a b g e)

-- ---- store calls and sheets

pub refuses_nan : RefusesNaN
unfolding store_call
refuses_nan l ns b h = rw h refl

pub record_refuses_nan : RecordRefusesNaN
unfolding records call
record_refuses_nan more l al s x bytes rest b e h =
    ap (λ (o : Option (Call × List ℕ)). after o) e ∙ ap (λ (o : Outcome). answered (on_nodes s o)) (refuses_nan l s.nodes b h)
  where
    answered : After → Ran
    answered a = elim (refusal_of a.answer) as (λ _. Ran) [
      | none ↦ records more l (al ++ a.answer ∷ []) a.left rest
      | some r ↦ ran al (some (r, length al)) a.left
    ]

    after : Option (Call × List ℕ) → Ran
    after o = elim o as (λ _. Ran) [
      | none ↦ ran al (some (bad_record, length al)) s
      | some cr ↦
          let a = call l s (call_on (operand_id (length s.nodes) al) cr.0) in
          elim (refusal_of a.answer) [
            | none ↦ records more l (al ++ a.answer ∷ []) a.left cr.1
            | some r ↦ ran al (some (r, length al)) a.left
          ]
    ]
