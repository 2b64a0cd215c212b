-- A prune at a threshold's bits: when it is answered, and what it then does.
use Prim.Native.Nat.{ℕ, ◌-◌, ◌<◌, ◌≤◌}
use mathlib.Core.Path.{◌≡◌, refl, sym, ap, ◌∙◌, subst}
use mathlib.Core.Bool.{Bool, true, false, cond}
use mathlib.Core.List.{List}
use lib.ListN.{length}
use native.Mathlib.Omega.{arith}
use borrow.Author.Tests.{ltb-true, ltb-false, leb-true, lt-ltb, le-leb}
use lib.Dec.{eqb, leb, ltb}
use lib.Ieee.{binary64, of_bits}
use Rattle.definitions.specs.Limits.{most_terms, most_halvings, infinity_bits}
use Rattle.definitions.specs.Node.{Node, at, add_kind}
use Rattle.definitions.specs.Intern.{Built, built, stopped, Lent}
use Rattle.definitions.specs.Prune.{chain, keeps, filter, balanced_add, sum_of_kept}
use Rattle.definitions.specs.Threshold.{bits, refusing, given}
use Rattle.definitions.specs.Refusals.{bad_operand, bad_threshold, too_many_terms}
use Rattle.definitions.specs.Machine.{pruned, refused, Outcome, outcome, pruned_as, prune_chain, prune_at, prune_call}
use Rattle.pruned_again.specs.Plain.{prune_at_bits}
use Rattle.pruned_again.proofs.Chains.{kept_ids}

-- the kept terms of a chain were summed, or a root without a chain was answered itself
pub data Way (l : Lent) (ns : List Node) (i t j k : ℕ) (ms : List Node) : Type 0 where
  sum : eqb (at ns i).kind add_kind ≡ true → length (chain ns i) ≤ most_terms → balanced_add most_halvings l ns (kept_ids ns i t) ≡ built ms j
      → k ≡ length (kept_ids ns i t) → Way l ns i t j k ms
  lone : eqb (at ns i).kind add_kind ≡ false → j ≡ i → ms ≡ ns → k ≡ 1 → Way l ns i t j k ms

pub record Answered (l : Lent) (ns : List Node) (i t j k : ℕ) (ms : List Node) : Type 0 where
  pub inside : i < length ns
  pub way : Way l ns i t j k ms

body : Lent → List Node → ℕ → ℕ → Bool → Bool → Bool → Outcome
body l ns i t known add many =
    cond known
    (cond add
    (cond many (outcome (refused too_many_terms) ns)
    (pruned_as (length (kept_ids ns i t)) (length (chain ns i) - length (kept_ids ns i t)) (balanced_add most_halvings l ns (kept_ids ns i t))))
    (outcome (pruned i 1 0) ns))
    (outcome (refused bad_operand) ns)

body_is : (l : Lent) (ns : List Node) (i t : ℕ)
    → prune_call l ns i (bits t) ≡ body l ns i t (ltb i (length ns)) (eqb (at ns i).kind add_kind) (ltb most_terms (length (chain ns i)))
unfolding prune_call prune_at prune_chain sum_of_kept body
body_is l ns i t = refl

inverted : (l : Lent) (ns : List Node) (i t j k d : ℕ) (a c e : Bool) → ltb i (length ns) ≡ a → eqb (at ns i).kind add_kind ≡ c → ltb most_terms (length (chain ns i)) ≡ e
    → (body l ns i t a c e).answer ≡ pruned j k d → Answered l ns i t j k (body l ns i t a c e).nodes
unfolding body
inverted l ns i t j k d false c e ea ec ee h = let z : ◌≡◌ {A = ℕ} 0 1 = cc in absurd (omega arith)
inverted l ns i t j k d true false e ea ec ee h = record { inside = ltb-true i (length ns) ea; way = lone ec (cc) refl (cc) }
inverted l ns i t j k d true true true ea ec ee h = let z : ◌≡◌ {A = ℕ} 0 1 = cc in absurd (omega arith)
inverted l ns i t j k d true true false ea ec ee h = go (balanced_add most_halvings l ns (kept_ids ns i t)) refl h
  where
    K : ℕ
    K = length (kept_ids ns i t)

    D : ℕ
    D = length (chain ns i) - length (kept_ids ns i t)

    go : (m : Built) → balanced_add most_halvings l ns (kept_ids ns i t) ≡ m → (pruned_as K D m).answer ≡ pruned j k d → Answered l ns i t j k (pruned_as K D m).nodes
    go (stopped ms r) q h = let z : ◌≡◌ {A = ℕ} 0 1 = cc in absurd (omega arith)
    go (built ms x) q h = record {
      inside = ltb-true i (length ns) ea;
      way = sum ec (ltb-false most_terms (length (chain ns i)) ee) (q ∙ ap (built ms) (let y : x ≡ j = cc in y)) (cc);
    }

pub answered : (l : Lent) (ns : List Node) (i t j k d : ℕ) → (prune_call l ns i (bits t)).answer ≡ pruned j k d → Answered l ns i t j k (prune_call l ns i (bits t)).nodes
answered l ns i t j k d h =
    subst (λ (a : Outcome). Answered l ns i t j k a.nodes) (sym (body_is l ns i t))
    (inverted l ns i t j k d (ltb i (length ns)) (eqb (at ns i).kind add_kind) (ltb most_terms (length (chain ns i))) refl refl refl (ap (λ (a : Outcome). a.answer) (sym (body_is l ns i t)) ∙ h))

-- a root without a chain
pub does_lone : (l : Lent) (ns : List Node) (i t : ℕ) → i < length ns → eqb (at ns i).kind add_kind ≡ false → prune_call l ns i (bits t) ≡ outcome (pruned i 1 0) ns
unfolding body
does_lone l ns i t h c = body_is l ns i t ∙ (λ x. body l ns i t (lt-ltb i (length ns) h x) (c x) (ltb most_terms (length (chain ns i))))

-- a chain, whose terms are known
pub does_sum : (l : Lent) (ns : List Node) (i t : ℕ) → i < length ns → eqb (at ns i).kind add_kind ≡ true → (ts : List ℕ) → chain ns i ≡ ts → length ts ≤ most_terms
    → let ks = filter (keeps ns (of_bits binary64 t)) ts in prune_call l ns i (bits t) ≡ pruned_as (length ks) (length ts - length ks) (balanced_add most_halvings l ns ks)
unfolding body
does_sum l ns i t a c ts e h =
    body_is l ns i t ∙ (λ x. body l ns i t (lt-ltb i (length ns) a x) (c x) (ltb most_terms (length (chain ns i))))
    ∙ ap (λ cs. cond (ltb most_terms (length cs)) (outcome (refused too_many_terms) ns) (of cs)) e
    ∙ ap (λ q. cond q (outcome (refused too_many_terms) ns) (of ts)) (few (ltb most_terms (length ts)) refl)
  where
    of : List ℕ → Outcome
    of cs = let ks = filter (keeps ns (of_bits binary64 t)) cs in pruned_as (length ks) (length cs - length ks) (balanced_add most_halvings l ns ks)

    few : (q : Bool) → ltb most_terms (length ts) ≡ q → q ≡ false
    few true e = absurd (omega (arith, ltb-true most_terms (length ts) e))
    few false e = refl

-- ---- what was handed in is a threshold
pub given_is : (t : ℕ) → t ≤ infinity_bits → given t ≡ bits t
given_is t h = ap (λ b. cond b (bits t) (refusing bad_threshold)) (le-leb t infinity_bits h)

pub refused_not : (l : Lent) (ns : List Node) (i r j k d : ℕ) → (prune_call l ns i (refusing r)).answer ≡ pruned j k d → ⊥
unfolding prune_call prune_at
refused_not l ns i r j k d e = go (ltb i (length ns)) e
  where
    go : (b : Bool) → (cond b (outcome (refused r) ns) (outcome (refused bad_operand) ns)).answer ≡ pruned j k d → ⊥
    go true e = let z : ◌≡◌ {A = ℕ} 0 1 = cc in omega arith
    go false e = let z : ◌≡◌ {A = ℕ} 0 1 = cc in omega arith

pub answered_bits : (l : Lent) (ns : List Node) (i t j k d : ℕ) → (prune_at_bits l ns i t).answer ≡ pruned j k d → t ≤ infinity_bits
answered_bits l ns i t j k d e = go (leb t infinity_bits) refl e
  where
    go : (b : Bool) → leb t infinity_bits ≡ b → (prune_call l ns i (cond b (bits t) (refusing bad_threshold))).answer ≡ pruned j k d → t ≤ infinity_bits
    go true q e = leb-true t infinity_bits q
    go false q e = absurd (refused_not l ns i bad_threshold j k d e)
