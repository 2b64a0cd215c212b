-- With one term kept at t that is not kept at u: it stays at u, where the original becomes 0.0.
use Prim.Native.Nat.{ℕ, ◌<◌, ◌≤◌}
use mathlib.Core.Path.{◌≡◌, refl, sym, ap, ◌∙◌, subst}
use mathlib.Core.Bool.{true, false, cond, true≢false}
use mathlib.Core.List.{List, [], ◌∷◌}
use lib.ListN.{length}
use native.Mathlib.Omega.{arith}
use borrow.Author.Tests.{eq-eqb}
use lib.Dec.{eqb}
use lib.Ieee.{binary64, of_bits}
use Rattle.definitions.specs.Limits.{infinity_bits, most_halvings}
use Rattle.definitions.specs.Node.{Node, at, same, add_kind}
use Rattle.definitions.specs.Intern.{built, Lent}
use Rattle.definitions.specs.Prune.{chain, keeps, filter, balanced_add}
use Rattle.definitions.specs.Threshold.{Threshold, bits, given}
use Rattle.definitions.specs.Machine.{pruned, outcome, prune_call}
use Rattle.definitions.specs.Formula.{nil, tree, forest, formula}
use Rattle.definitions.proofs.Stable.{opened}
use Rattle.definitions.proofs.Intern.{Sound, T_true, eq_same}
use Rattle.definitions.proofs.Prune.{Flat, flat_filter}
use Rattle.pruned_again.specs.Plain.{prune_at_bits, NotBelow, zero_node, FailsPlainly}
use Rattle.pruned_again.proofs.Fitting.{fitting}
use Rattle.pruned_again.proofs.Chains.{flat_chain, kept_ids}
use Rattle.pruned_again.proofs.Answered.{Way, sum, lone, answered, answered_bits, given_is, does_lone}
use Rattle.pruned_again.proofs.Left.{kind_sum, left_by}
use Rattle.pruned_again.proofs.Higher.{kept_of_kept}

-- an id with the formula of 0.0 is that of the constant 0.0
no_children : (ns : List Node) (ks : List ℕ) → forest (formula ns) ks ≡ nil → ks ≡ []
no_children ns [] e = refl
no_children ns (k ∷ ks) e = let z : ◌≡◌ {A = ℕ} 0 1 = cc in absurd (omega arith)

is_zero_lem : (ns : List Node) → Sound ns → (x : ℕ) → x < length ns → formula ns x ≡ tree 1 0 0 nil → same (at ns x) zero_node ≡ true
is_zero_lem ns s x h e =
    let n = at ns x in
    let o : tree n.kind n.payload n.flags (forest (formula ns) n.children) ≡ tree 1 0 0 nil = sym (opened ns x h (s x h).low) ∙ e in
    let ek : n.kind ≡ 1 = cc in
    let ep : n.payload ≡ 0 = cc in
    let ef : n.flags ≡ 0 = cc in
    let ec : forest (formula ns) n.children ≡ nil = cc in
    T_true (same n zero_node) (eq_same n zero_node ek ep ef (no_children ns n.children ec))

abbrev Fails : Lent → List Node → ℕ → Threshold → ℕ → ℕ → Type 0
Fails l ms id u id' kept' = (prune_call l ms id u ≡ outcome (pruned id 1 0) ms) × (kept' ≡ 0) × (id' ≡ id → ⊥)

module _ (l : Lent) (ns : List Node) (i t u x : ℕ) (s : Sound ns) (h : i < length ns) (ht : t ≤ infinity_bits) (hu : u ≤ infinity_bits) (nb : NotBelow t u)
    (is : kept_ids ns i t ≡ x ∷ []) (out : keeps ns (of_bits binary64 u) x ≡ false) (other : same (at ns x) zero_node ≡ false) where
  flat : Flat ns (x ∷ [])
  flat = subst (Flat ns) is (flat_filter ns (keeps ns (of_bits binary64 t)) (chain ns i) (flat_chain ns i s h))

  none_kept : kept_ids ns i u ≡ []
  none_kept = sym (kept_of_kept ns i t u ht hu nb) ∙ ap (filter (keeps ns (of_bits binary64 u))) is ∙ ap (λ b. cond b (x ∷ []) []) out

  one_kept : (id' kept' : ℕ) (os : List Node) → eqb (at ns i).kind add_kind ≡ true → Way l ns i u id' kept' os → Fails l ns x (bits u) id' kept'
  one_kept id' kept' os add (lone unchained ej em ek) = absurd (true≢false (sym add ∙ unchained))
  one_kept id' kept' os add (sum chained few b ek) =
      let none : Flat ns [] = tt in
      let left = left_by l ns [] os id' s none (omega arith) (ap (balanced_add most_halvings l ns) (sym none_kept) ∙ b) in (
        does_lone l ns x u flat.0.0 (kind_sum ns s x flat.0.0 ∙ flat.0.1),
        ek ∙ ap length none_kept,
        λ e.
            let zero = sym (left.step.kept x flat.0.0) ∙ ap (formula os) (sym e) ∙ left.remains in
            true≢false (sym (is_zero_lem ns s x flat.0.0 zero) ∙ other),
      )

abbrev FailsAt : Lent → List Node → ℕ → Threshold → Threshold → ℕ → ℕ → ℕ → ℕ → ℕ → Type 0
FailsAt l ns i t u id dropped id' kept' dropped' =
    (prune_call l ns i t).answer ≡ pruned id 1 dropped
    → let ms = (prune_call l ns i t).nodes in
    (prune_call l ms i u).answer ≡ pruned id' kept' dropped' → Fails l ms id u id' kept'

module _ (l : Lent) (ns : List Node) (i t u id dropped id' kept' dropped' : ℕ) (s : Sound ns) (ht : t ≤ infinity_bits) (hu : u ≤ infinity_bits) (nb : NotBelow t u)
    (add : eqb (at ns i).kind add_kind ≡ true) (out : keeps ns (of_bits binary64 u) id ≡ false) (other : same (at ns id) zero_node ≡ false) where
  summed : (ms : List Node) (ks : List ℕ) → i < length ns → kept_ids ns i t ≡ ks → 1 ≡ length ks → balanced_add most_halvings l ns ks ≡ built ms id
      → (prune_call l ms i (bits u)).answer ≡ pruned id' kept' dropped' → Fails l ms id (bits u) id' kept'
  unfolding balanced_add
  summed ms [] h is one b e = absurd (omega arith)
  summed ms (x ∷ y ∷ ks) h is one b e = absurd (omega arith)
  summed ms (x ∷ []) h is one b e =
      let same_id : x ≡ id = cc in
      let same_nodes : ns ≡ ms = cc in
      subst (λ (ms : List Node). (prune_call l ms i (bits u)).answer ≡ pruned id' kept' dropped' → Fails l ms id (bits u) id' kept') same_nodes
      (λ e. one_kept l ns i t u id s h ht hu nb (is ∙ ap (λ (x : ℕ). x ∷ []) same_id) out other id' kept' (prune_call l ns i (bits u)).nodes add (answered l ns i u id' kept' dropped' e).way) e

  fails_way : (ms : List Node) → i < length ns → Way l ns i t id 1 ms → (prune_call l ms i (bits u)).answer ≡ pruned id' kept' dropped' → Fails l ms id (bits u) id' kept'
  fails_way ms h (lone unchained ej em ek) e = absurd (true≢false (sym add ∙ unchained))
  fails_way ms h (sum chained few b one) e = summed ms (kept_ids ns i t) h refl one b e

  fails_bits : FailsAt l ns i (bits t) (bits u) id dropped id' kept' dropped'
  fails_bits a a' = let first = answered l ns i t id 1 dropped a in fails_way (prune_call l ns i (bits t)).nodes first.inside first.way a'

pub fails_plainly : FailsPlainly
fails_plainly l ns i t u id dropped id' kept' dropped' p add e nb out other e' =
    let ht = answered_bits l ns i t id 1 dropped e in
    let hu = answered_bits l (prune_at_bits l ns i t).nodes i u id' kept' dropped' e' in
    subst (λ (x : Threshold). FailsAt l ns i x (given u) id dropped id' kept' dropped') (sym (given_is t ht))
    (subst (λ (x : Threshold). FailsAt l ns i (bits t) x id dropped id' kept' dropped') (sym (given_is u hu))
    (fails_bits l ns i t u id dropped id' kept' dropped' (fitting ns p) ht hu nb (eq-eqb (at ns i).kind add_kind add) out other)) e e'
