-- A second prune at a threshold that is not below the first: it goes over the terms that the original's goes over.
use Prim.Native.Nat.{ℕ, ◌-◌, ◌<◌, ◌≤◌}
use mathlib.Core.Path.{◌≡◌, refl, sym, ap, ◌∙◌, subst}
use mathlib.Core.Bool.{true}
use mathlib.Core.List.{List}
use lib.ListN.{length}
use native.Mathlib.Omega.{arith}
use lib.Dec.{T, eqb}
use lib.Ieee.{binary64, of_bits, le}
use Rattle.definitions.specs.Limits.{infinity_bits, most_terms, most_halvings}
use Rattle.definitions.specs.Node.{Node, at, add_kind}
use Rattle.definitions.specs.Intern.{Built, built, stopped, Lent}
use Rattle.definitions.specs.Prune.{chain, keeps, filter, balanced_add}
use Rattle.definitions.specs.Threshold.{Threshold, bits, given}
use Rattle.definitions.specs.Machine.{pruned, Outcome, outcome, pruned_as, prune_call}
use Rattle.definitions.specs.Chain.{terms, is_add}
use Rattle.definitions.proofs.Intern.{Sound, Inj, Step, trans}
use Rattle.definitions.proofs.Prune.{Flat, flat_up, map_up, flat_filter, filter_length, clear_bits}
use Rattle.pruned_again.specs.Plain.{prune_at_bits, NotBelow, HigherPlainly}
use Rattle.pruned_again.proofs.Regrown.{Ext, ext_refl, ext_trans}
use Rattle.pruned_again.proofs.Order.{not_below, no_nan}
use Rattle.pruned_again.proofs.Fitting.{fitting, apart}
use Rattle.pruned_again.proofs.Chains.{chain_is, flat_chain, same_chain, filter_ext, filter_filter, keeps_up, kept_ids}
use Rattle.pruned_again.proofs.Answered.{Way, sum, lone, answered, answered_bits, given_is, does_sum}
use Rattle.pruned_again.proofs.Left.{LeftBy, kind_sum, left_by, left, flat_kept, kept_few, answer_chain}

-- thresholds of which the second is not below the first
pub not_above : (t u : ℕ) → t ≤ infinity_bits → u ≤ infinity_bits → NotBelow t u → T (le (of_bits binary64 t) (of_bits binary64 u))
not_above t u ht hu nb =
    not_below (of_bits binary64 t) (of_bits binary64 u) (clear_bits t ht) (clear_bits u hu) (no_nan t ht) (no_nan u hu) nb

-- what is kept at u of what is kept at t is what is kept at u
pub kept_of_kept : (ns : List Node) (i t u : ℕ) → t ≤ infinity_bits → u ≤ infinity_bits → NotBelow t u
    → filter (keeps ns (of_bits binary64 u)) (kept_ids ns i t) ≡ kept_ids ns i u
kept_of_kept ns i t u ht hu nb =
    filter_filter (keeps ns (of_bits binary64 t)) (keeps ns (of_bits binary64 u))
    (keeps_up ns (of_bits binary64 t) (of_bits binary64 u) (clear_bits t ht) (clear_bits u hu) (not_above t u ht hu nb)) (chain ns i)

-- the chain of i in a store that has grown
module _ (ns os : List Node) (i : ℕ) (s : Sound ns) (one : Inj ns) (h : i < length ns) (st : Step ns os) where
  inside : i < length os
  inside = omega (arith, h, st.longer)

  pub chain_stays : chain os i ≡ chain ns i
  chain_stays =
      chain_is os st.sound (st.one one) i inside (chain ns i) (flat_up ns os st (chain ns i) (flat_chain ns i s h))
      (ap terms (st.kept i h) ∙ sym (same_chain ns i s h) ∙ sym (map_up ns os st (chain ns i) (flat_chain ns i s h)))

  kind_stays : eqb (at os i).kind add_kind ≡ eqb (at ns i).kind add_kind
  kind_stays = kind_sum os st.sound i inside ∙ ap is_add (st.kept i h) ∙ sym (kind_sum ns s i h)

  -- a prune of i there sums what is kept of this chain
  original : (l : Lent) (u : ℕ) → Ext ns os → eqb (at ns i).kind add_kind ≡ true → length (chain ns i) ≤ most_terms
      → let ks = kept_ids ns i u in prune_call l os i (bits u) ≡ pruned_as (length ks) (length (chain ns i) - length ks) (balanced_add most_halvings l os ks)
  original l u grown add few =
      does_sum l os i u inside (kind_stays ∙ add) (chain ns i) chain_stays few
      ∙ ap (λ q. pruned_as (length q) (length (chain ns i) - length q) (balanced_add most_halvings l os q))
      (filter_ext ns os grown (of_bits binary64 u) (chain ns i) (flat_chain ns i s h))

-- what pruning the original at u does on the store after the first prune, and on the store after the second
abbrev Both : Lent → List Node → List Node → ℕ → Threshold → ℕ → ℕ → Type 0
Both l ms os i u id k =
    ((d : ℕ) × (prune_call l ms i u ≡ outcome (pruned id k d) os)) × ((d : ℕ) × (prune_call l os i u ≡ outcome (pruned id k d) os))

-- a first prune at t, whose kept terms were summed to j
module _ (l : Lent) (ns : List Node) (i t u j : ℕ) (ms : List Node) (s : Sound ns) (one : Inj ns) (h : i < length ns)
    (few : length (chain ns i) ≤ most_terms) (b : balanced_add most_halvings l ns (kept_ids ns i t) ≡ built ms j)
    (ht : t ≤ infinity_bits) (hu : u ≤ infinity_bits) (nb : NotBelow t u) (two : 2 ≤ length (kept_ids ns i t)) (add : eqb (at ns i).kind add_kind ≡ true) where
  abbrev Q : List ℕ
  Q = kept_ids ns i u

  abbrev C : ℕ
  C = length (chain ns i) - length Q

  abbrev D : ℕ
  D = length (kept_ids ns i t) - length Q

  L : LeftBy l ns (kept_ids ns i t) ms j
  L = left l ns i t j ms s one h few b

  second : prune_call l ms j (bits u) ≡ pruned_as (length Q) D (balanced_add most_halvings l ms Q)
  second =
      does_sum l ms j u L.inside (L.two two) (kept_ids ns i t) (answer_chain l ns i t j ms s one h few b two) (kept_few l ns i t j ms s one h few b)
      ∙ ap (λ q. pruned_as (length q) (length (kept_ids ns i t) - length q) (balanced_add most_halvings l ms q))
      (filter_ext ns ms L.grown (of_bits binary64 u) (kept_ids ns i t) (flat_kept l ns i t j ms s one h few b) ∙ kept_of_kept ns i t u ht hu nb)

  flat_higher : Flat ms Q
  flat_higher = flat_up ns ms L.step Q (flat_filter ns (keeps ns (of_bits binary64 u)) (chain ns i) (flat_chain ns i s h))

  few_higher : length Q ≤ most_terms
  few_higher = omega (arith, filter_length (keeps ns (of_bits binary64 u)) (chain ns i), few)

  both : (id k d : ℕ) (m : Built) → balanced_add most_halvings l ms Q ≡ m → (pruned_as (length Q) D m).answer ≡ pruned id k d
      → Both l ms (pruned_as (length Q) D m).nodes i (bits u) id k
  both id k d (stopped os r) q e = let z : ◌≡◌ {A = ℕ} 0 1 = cc in absurd (omega arith)
  both id k d (built os x) q e =
      let B = left_by l ms Q os x L.step.sound flat_higher few_higher q in
      let ex : x ≡ id = cc in
      let ek : length Q ≡ k = cc in
      let on_first = original ns ms i s one h L.step l u L.grown add few ∙ ap (pruned_as (length Q) C) q in
      let on_second = original ns os i s one h (trans L.step B.step) l u (ext_trans L.grown B.grown) add few
      ∙ ap (pruned_as (length Q) C) (B.again os (ext_refl os)) in (
        (C, on_first ∙ (λ y. outcome (pruned (ex y) (ek y) C) os)),
        (C, on_second ∙ (λ y. outcome (pruned (ex y) (ek y) C) os)),
      )

  pub higher_sum : (id k d : ℕ) → (prune_call l ms j (bits u)).answer ≡ pruned id k d → Both l ms (prune_call l ms j (bits u)).nodes i (bits u) id k
  higher_sum id k d e =
      subst (λ (o : Outcome). Both l ms o.nodes i (bits u) id k) (sym second)
      (both id k d (balanced_add most_halvings l ms Q) refl (ap (λ (o : Outcome). o.answer) (sym second) ∙ e))

higher_way : (l : Lent) (ns : List Node) (i t u j kept id k d : ℕ) (ms : List Node) → Sound ns → Inj ns → i < length ns → t ≤ infinity_bits → u ≤ infinity_bits → NotBelow t u
    → 2 ≤ kept → Way l ns i t j kept ms → (prune_call l ms j (bits u)).answer ≡ pruned id k d → Both l ms (prune_call l ms j (bits u)).nodes i (bits u) id k
higher_way l ns i t u j kept id k d ms s one h ht hu nb two (sum add few b is) e = higher_sum l ns i t u j ms s one h few b ht hu nb (omega arith) add id k d e
higher_way l ns i t u j kept id k d ms s one h ht hu nb two (lone add ej em is) e = absurd (omega arith)

-- the promise at any two thresholds
abbrev HigherAt : Lent → List Node → ℕ → Threshold → Threshold → ℕ → ℕ → ℕ → ℕ → ℕ → ℕ → Type 0
HigherAt l ns i t u id kept dropped id' kept' dropped' =
    (prune_call l ns i t).answer ≡ pruned id kept dropped
    → let ms = (prune_call l ns i t).nodes in
    (prune_call l ms id u).answer ≡ pruned id' kept' dropped'
    → Both l ms (prune_call l ms id u).nodes i u id' kept'

pub higher_plainly : HigherPlainly
higher_plainly l ns i t u id kept dropped id' kept' dropped' p e two nb e' =
    let ht = answered_bits l ns i t id kept dropped e in
    let hu = answered_bits l (prune_at_bits l ns i t).nodes id u id' kept' dropped' e' in
    let at_bits : HigherAt l ns i (bits t) (bits u) id kept dropped id' kept' dropped' = λ a a'.
    let first = answered l ns i t id kept dropped a in
    higher_way l ns i t u id kept id' kept' dropped' (prune_call l ns i (bits t)).nodes (fitting ns p) (apart ns p) first.inside ht hu nb two first.way a' in
    subst (λ (x : Threshold). HigherAt l ns i x (given u) id kept dropped id' kept' dropped') (sym (given_is t ht))
    (subst (λ (x : Threshold). HigherAt l ns i (bits t) x id kept dropped id' kept' dropped') (sym (given_is u hu)) at_bits) e e'
