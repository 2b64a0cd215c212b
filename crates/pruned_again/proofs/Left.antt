-- What the sum of kept terms leaves: a store that has grown, where the same sum is found again, and an answer whose chain is the kept terms.
use Prim.Native.Nat.{ℕ, ◌<◌, ◌≤◌}
use mathlib.Core.Path.{◌≡◌, refl, sym, ap, ◌∙◌, subst}
use mathlib.Core.Bool.{Bool, true, false, cond}
use mathlib.Core.List.{List, [], ◌∷◌, map}
use lib.ListN.{length}
use native.Mathlib.Omega.{arith}
use lib.Dec.{eqb}
use lib.Ieee.{binary64, of_bits}
use Rattle.definitions.specs.Limits.{most_terms, most_halvings}
use Rattle.definitions.specs.Node.{Node, at, add_kind}
use Rattle.definitions.specs.Intern.{built, Lent}
use Rattle.definitions.specs.Prune.{chain, keeps, balanced_add}
use Rattle.definitions.specs.Formula.{Tree, tree, formula}
use Rattle.definitions.specs.Chain.{terms, terms_all, is_add, Remains}
use Rattle.definitions.proofs.Stable.{opened}
use Rattle.definitions.proofs.Intern.{Sound, Inj, Step, Result}
use Rattle.definitions.proofs.Prune.{Flat, flat_up, map_up, flat_filter, filter_length}
use Rattle.definitions.proofs.PruneCalls.{remains_of}
use Rattle.pruned_again.proofs.Regrown.{Ext, Again, balanced_again}
use Rattle.pruned_again.proofs.Chains.{chain_is, flat_chain, kept_ids}

is_sum : (t : Tree) (a b : Tree) (r : List Tree) → terms t ≡ a ∷ b ∷ r → is_add t ≡ true
unfolding terms
is_sum (tree k p f c) a b r e = go (eqb k add_kind) e
  where
    go : (x : Bool) → cond x (terms_all c) (tree k p f c ∷ []) ≡ a ∷ b ∷ r → x ≡ true
    go true q = refl
    go false q = let z : ◌≡◌ {A = ℕ} 0 1 = cc in absurd (omega arith)

pub kind_sum : (ns : List Node) → Sound ns → (i : ℕ) → i < length ns → eqb (at ns i).kind add_kind ≡ is_add (formula ns i)
kind_sum ns s i h = sym (ap is_add (opened ns i h (s i h).low))

pub record LeftBy (l : Lent) (ns : List Node) (ks : List ℕ) (ms : List Node) (j : ℕ) : Type 0 where
  pub grown : Ext ns ms
  pub step : Step ns ms
  pub inside : j < length ms
  pub again : (os : List Node) → Ext ms os → balanced_add most_halvings l os ks ≡ built os j
  pub remains : Remains (map (formula ns) ks) (formula ms j)
  pub two : 2 ≤ length ks → eqb (at ms j).kind add_kind ≡ true
  pub few : length ks ≤ 1 → eqb (at ms j).kind add_kind ≡ false

pub left_by : (l : Lent) (ns : List Node) (ks : List ℕ) (ms : List Node) (j : ℕ) → Sound ns → Flat ns ks → length ks ≤ most_terms
    → balanced_add most_halvings l ns ks ≡ built ms j → LeftBy l ns ks ms j
left_by l ns ks ms j s f h e =
    let a : Again ns (λ os. balanced_add most_halvings l os ks) (built ms j)
    = subst (Again ns (λ os. balanced_add most_halvings l os ks)) e (balanced_again most_halvings l ns ks) in
    let r : Left ks = subst (Result ns (λ ms i. Remains (map (formula ns) ks) (formula ms i))) e (remains_of l ns ks s f h) in
    let kind = kind_sum ms r.0.sound j r.1 in
    record {
      grown = a.0;
      step = r.0;
      inside = r.1;
      again = a.1;
      remains = r.2;
      two = λ q. kind ∙ sum ks r.2 q;
      few = λ q. kind ∙ no_sum ks f r.2 q;
    }
  where
    Left : List ℕ → Type 0
    Left ks = Result ns (λ ms i. Remains (map (formula ns) ks) (formula ms i)) (built ms j)

    sum : (ks : List ℕ) → Remains (map (formula ns) ks) (formula ms j) → 2 ≤ length ks → is_add (formula ms j) ≡ true
    sum [] r h = absurd (omega arith)
    sum (a ∷ []) r h = absurd (omega arith)
    sum (a ∷ b ∷ q) r h = is_sum (formula ms j) (formula ns a) (formula ns b) (map (formula ns) q) r

    no_sum : (ks : List ℕ) → Flat ns ks → Remains (map (formula ns) ks) (formula ms j) → length ks ≤ 1 → is_add (formula ms j) ≡ false
    no_sum [] f r h = ap is_add r
    no_sum (a ∷ []) f r h = ap is_add r ∙ f.0.1
    no_sum (a ∷ b ∷ q) f r h = absurd (omega arith)

two_terms : (ns : List Node) (ks : List ℕ) (t : Tree) → 2 ≤ length ks → Remains (map (formula ns) ks) t → terms t ≡ map (formula ns) ks
two_terms ns [] t h r = absurd (omega arith)
two_terms ns (a ∷ []) t h r = absurd (omega arith)
two_terms ns (a ∷ b ∷ q) t h r = r

-- a prune at t of the chain of i, whose kept terms were summed to j
module _ (l : Lent) (ns : List Node) (i t j : ℕ) (ms : List Node) (s : Sound ns) (u : Inj ns) (h : i < length ns)
    (few : length (chain ns i) ≤ most_terms) (b : balanced_add most_halvings l ns (kept_ids ns i t) ≡ built ms j) where
  pub flat_kept : Flat ns (kept_ids ns i t)
  flat_kept = flat_filter ns (keeps ns (of_bits binary64 t)) (chain ns i) (flat_chain ns i s h)

  pub kept_few : length (kept_ids ns i t) ≤ most_terms
  kept_few = omega (arith, filter_length (keeps ns (of_bits binary64 t)) (chain ns i), few)

  pub left : LeftBy l ns (kept_ids ns i t) ms j
  left = left_by l ns (kept_ids ns i t) ms j s flat_kept kept_few b

  pub answer_chain : 2 ≤ length (kept_ids ns i t) → chain ms j ≡ kept_ids ns i t
  answer_chain two =
      chain_is ms left.step.sound (left.step.one u) j left.inside (kept_ids ns i t) (flat_up ns ms left.step (kept_ids ns i t) flat_kept)
      (two_terms ns (kept_ids ns i t) (formula ms j) two left.remains ∙ sym (map_up ns ms left.step (kept_ids ns i t) flat_kept))
