-- Prunes on a sound store, by the plain machine's cases.
use Prim.Native.Nat.{ℕ, ◌-◌, ◌<◌, ◌≤◌}
use mathlib.Core.Path.{◌≡◌, refl, sym, ap, ap₂, ◌∙◌, subst}
use mathlib.Core.Bool.{Bool, true, cond, not, false≢true}
use mathlib.Core.Logic.{inl, inr}
use mathlib.Core.List.{List}
use lib.ListN.{length}
use lib.Dec.{ltb}
use lib.Ieee.{Float, binary64, of_bits}
use native.Mathlib.Omega.{arith}
use borrow.Author.Tests.{eq-eqb, ne_eqb, lt-ltb, le-ltb}
use Rattle.definitions.specs.Limits.{most_terms}
use Rattle.definitions.specs.Refusals.{bad_operand, too_many_terms}
use Rattle.definitions.specs.Node.{Node, at, add_kind}
use Rattle.definitions.specs.Intern as I
use Rattle.definitions.specs.Intern.{Lent}
use Rattle.definitions.specs.Prune.{chain, keeps, filter, sum_of_kept}
use Rattle.definitions.specs.Threshold as T
use Rattle.definitions.specs.Machine as M
use Rattle.definitions.specs.Machine.{pruned_as, prune_chain, prune_at, prune_call, outcome}
use Rattle.definitions.proofs.Stable.{Lower}
use Rattle.definitions.proofs.Prune.{filter_length}
use Rattle.arena.specs.declared.DagArena.{DagArena}
use Rattle.store.specs.View.{nodes_in, lent, Sound}
use Rattle.store.specs.Memory.{Memory, memory, keeps_interned}
use Rattle.store.proofs.Keeping.{kept_refl}
use Rattle.store.proofs.Viewing.{plain_length}
use Rattle.chains.specs.Terms.{Flattens, HoldsTerms}
use Rattle.chains.specs.Terms.{AllBelow}
use Rattle.sums.specs.Sums.{part, BuildsIn, SumsTerms}
use Rattle.pruner.specs.Answers.{meaning, threshold_of, Prunes, PrunesChain, PrunesRoot, PrunesCall}
use Rattle.std.specs.Prelude.{Option, None, Some, Result, Ok, Err}
use Rattle.refusal.specs.declared.Refusal.{Refusal}
use Rattle.refusal.specs.declared.Refusal.TheVariants.{BadOperand, TooManyTerms}
use Rattle.refusal.specs.Number.{number_of}
use Rattle.chains.specs.declared.chain.Terms.{Terms}
use Rattle.pruner.specs.declared.Pruned.{Pruned}
use Rattle.chains.proofs.Below.{below_of, lower_filter}
use Rattle.chains.proofs.Chains.{chain_low}
use Rattle.chains.proofs.Reading.{readable, layered}
use Rattle.definitions.proofs.Stopping.{NoPlace, StopsForPlace}
use Rattle.sums.proofs.Halving.{sum_stops}

-- 21 and 22 keep what was interned
for_place : (number : ℕ) → NoPlace number → keeps_interned number ≡ true
for_place number (inl e) = ap (λ (x : ℕ). keeps_interned x) e
for_place number (inr e) = ap (λ (x : ℕ). keeps_interned x) e

-- ---- a flattening's answer by its case
pub holds_of : (terms : List ℕ) (keep : ℕ → Bool) (answer : Result Terms Refusal) (array : List ℕ) (t : Terms) → Flattens terms keep answer array → answer ≡ Ok t
    → HoldsTerms terms keep (Ok t) array
holds_of terms keep answer array t f e = subst (λ (x : Result Terms Refusal). HoldsTerms terms keep x array) e f.holds

pub too_many_of : (terms : List ℕ) (keep : ℕ → Bool) (answer : Result Terms Refusal) (array : List ℕ) (refusal : Refusal) → Flattens terms keep answer array → answer ≡ Err refusal
    → HoldsTerms terms keep (Err refusal) array
too_many_of terms keep answer array refusal f e = subst (λ (x : Result Terms Refusal). HoldsTerms terms keep x array) e f.holds

module _ (words slots : List ℕ) (s : DagArena) (sound : Sound words slots s) where
  abbrev m : Memory
  m = memory words slots s

  abbrev l : Lent
  l = lent words slots

  abbrev ns : List Node
  ns = nodes_in words s.count

  -- memory as it was, with any answer
  pub same : (plain : M.Outcome) (answer : Result Pruned Refusal) → outcome (meaning answer) (nodes_in words s.count) ≡ plain → Prunes (memory words slots s) plain answer (memory words slots s)
  same plain answer e = record { plainly = e; kept = kept_refl words slots s sound; unchanged = λ number q u. refl }

  -- ---- the root

  -- "id not below the count"
  pub no_root : (root : ℕ) (threshold : Result (Option ℕ) Refusal) → s.count ≤ root → PrunesCall (memory words slots s) root threshold (Err BadOperand) (memory words slots s)
  unfolding prune_call
  no_root root threshold h = same _ (Err BadOperand) (sym (ap (λ (b : Bool). cond b (prune_at l ns root (threshold_of threshold)) (outcome (M.refused bad_operand) ns)) (le-ltb root (length ns) (omega (arith, plain_length words s.count)))))

  module _ (root : ℕ) (low : root < s.count) where
    known : ltb root (length ns) ≡ true
    known = lt-ltb root (length ns) (omega (arith, plain_length words s.count))

    at_known : (t : T.Threshold) → prune_at l ns root t ≡ prune_call l ns root t
    unfolding prune_call
    at_known t = sym (ap (λ (b : Bool). cond b (prune_at l ns root t) (outcome (M.refused bad_operand) ns)) known)

    pub at_root : (threshold : Result (Option ℕ) Refusal) (bits : ℕ) → threshold ≡ Ok (Some bits) → (answer : Result Pruned Refusal) (m' : Memory)
        → PrunesRoot (memory words slots s) root bits answer m'
        → PrunesCall (memory words slots s) root threshold answer m'
    at_root threshold bits e answer m' p =
        record { plainly = p.plainly ∙ at_known (T.bits bits) ∙ ap (λ (x : Result (Option ℕ) Refusal). prune_call l ns root (threshold_of x)) (sym e); kept = p.kept; unchanged = p.unchanged }

    -- no threshold
    pub answers_root : (threshold : Result (Option ℕ) Refusal) → threshold ≡ Ok None → PrunesCall (memory words slots s) root threshold (Ok (record { id = root; kept = 1; dropped = 0 })) (memory words slots s)
    unfolding prune_at
    answers_root threshold e = same _ (Ok (record { id = root; kept = 1; dropped = 0 })) (at_known T.untouched ∙ ap (λ (x : Result (Option ℕ) Refusal). prune_call l ns root (threshold_of x)) (sym e))

    -- a threshold that is refused
    pub no_threshold : (threshold : Result (Option ℕ) Refusal) (refusal : Refusal) → threshold ≡ Err refusal
        → PrunesCall (memory words slots s) root threshold (Err refusal) (memory words slots s)
    unfolding prune_at
    no_threshold threshold refusal e = same _ (Err refusal) (at_known (T.refusing (number_of refusal)) ∙ ap (λ (x : Result (Option ℕ) Refusal). prune_call l ns root (threshold_of x)) (sym e))

    -- ---- the terms
    abbrev ts : List ℕ
    ts = chain ns root

    terms_low : Lower s.count ts
    terms_low =
        let long = plain_length words s.count in
        subst (λ (n : ℕ). Lower n ts) long (chain_low ns (layered words s.count (readable words slots s sound)) root (omega arith))

    module _ (threshold : ℕ) where
      abbrev t : Float
      t = of_bits binary64 threshold

      abbrev ks : List ℕ
      ks = filter (keeps ns t) ts

      -- "A root that is no Add has no chain and is answered itself, 1 kept, 0 dropped."
      pub no_chain : ((at (nodes_in words s.count) root).kind ≡ add_kind → ⊥) → PrunesRoot (memory words slots s) root threshold (Ok (record { id = root; kept = 1; dropped = 0 })) (memory words slots s)
      unfolding prune_at
      no_chain other = same _ (Ok (record { id = root; kept = 1; dropped = 0 })) (sym (ap (λ (b : Bool). cond b (prune_chain l ns t ts) (outcome (M.pruned root 1 0) ns)) (ne_eqb (at ns root).kind add_kind other)))

      pub at_chain : (at (nodes_in words s.count) root).kind ≡ add_kind → (answer : Result Pruned Refusal) (m' : Memory)
          → PrunesChain (memory words slots s) root threshold answer m'
          → PrunesRoot (memory words slots s) root threshold answer m'
      unfolding prune_at
      at_chain add answer m' p =
          record { plainly = p.plainly ∙ sym (ap (λ (b : Bool). cond b (prune_chain l ns t ts) (outcome (M.pruned root 1 0) ns)) (eq-eqb (at ns root).kind add_kind add)); kept = p.kept; unchanged = p.unchanged }

      -- ---- the chain

      -- "over 4,096 terms"
      pub too_many : (refusal : Refusal) → refusal ≡ TooManyTerms → most_terms < length (chain (nodes_in words s.count) root)
          → PrunesChain (memory words slots s) root threshold (Err refusal) (memory words slots s)
      unfolding prune_chain
      too_many refusal e h = same _ (Err refusal) (ap (λ (x : Refusal). outcome (M.refused (number_of x)) ns) e ∙ sym (ap (λ (b : Bool). cond b (outcome (M.refused too_many_terms) ns) (pruned_as (length ks) (length ts - length ks) (sum_of_kept l ns ks))) (lt-ltb most_terms (length ts) h)))

      module _ (from found kept : ℕ) (array : List ℕ) (holds : HoldsTerms (chain (nodes_in words s.count) root) (keeps (nodes_in words s.count) (of_bits binary64 threshold)) (Ok (record { from = from; found = found; kept = kept })) array) where
        pub few : kept ≤ found
        few = omega (arith, holds.0, holds.2, filter_length (keeps ns t) ts)

        kept_many : length (part array from kept) ≡ kept
        kept_many = ap length holds.4 ∙ sym holds.2

        kept_low : Lower s.count ks
        kept_low = lower_filter s.count (keeps ns t) ts terms_low

        pub low_terms : AllBelow s.count (part array from kept)
        low_terms = below_of s.count (part array from kept) (subst (Lower s.count) (sym holds.4) kept_low)

        plain : (sum : I.Built) → sum ≡ sum_of_kept l ns (part array from kept) → pruned_as kept (found - kept) sum ≡ prune_chain l ns t ts
        unfolding prune_chain
        plain sum e =
            let b : found - kept ≡ length ts - length ks = ap₂ (λ (x y : ℕ). x - y) holds.0 holds.2 in
            ap (pruned_as kept (found - kept)) (e ∙ ap (sum_of_kept l ns) holds.4)
            ∙ ap₂ (λ (x y : ℕ). pruned_as x y (sum_of_kept l ns ks)) holds.2 b
            ∙ sym (ap (λ (b : Bool). cond b (outcome (M.refused too_many_terms) ns) (pruned_as (length ks) (length ts - length ks) (sum_of_kept l ns ks))) (le-ltb most_terms (length ts) (let x = holds.0 in let y = holds.1 in omega arith)))

        module _ (m' : Memory) (sum : Result ℕ Refusal) (b : SumsTerms (memory words slots s) (part array from kept) sum m') where
          abbrev ns' : List Node
          ns' = nodes_in m'.words m'.arena.count

          said : (other : Result ℕ Refusal) → sum ≡ other → BuildsIn (memory words slots s) (sum_of_kept l ns (part array from kept)) other m'
          said other e = subst (λ (x : Result ℕ Refusal). BuildsIn (memory words slots s) (sum_of_kept l ns (part array from kept)) x m') e b

          pub answered : (id : ℕ) → sum ≡ Ok id → PrunesChain (memory words slots s) root threshold (Ok (record { id = id; kept = kept; dropped = found - kept })) m'
          answered id e = record {
            plainly = plain (I.built ns' id) (said (Ok id) e).answer;
            kept = b.kept;
            unchanged = λ number q u. absurd (let z : ◌≡◌ {A = ℕ} 0 1 = cc in omega arith);
          }

          -- 21 and 22
          pub stops : (refusal : Refusal) → sum ≡ Err refusal → PrunesChain (memory words slots s) root threshold (Err refusal) m'
          stops refusal e = record {
            plainly = plain (I.stopped ns' (number_of refusal)) (said (Err refusal) e).answer;
            kept = b.kept;
            unchanged = λ other q u. absurd (false≢true (sym (ap (λ (x : ℕ). not (keeps_interned x)) (sym (is other q)) ∙ ap not (for_place (number_of refusal) by_place)) ∙ u));
          }
            where
              is : (other : ℕ) → M.refused (number_of refusal) ≡ M.refused other → number_of refusal ≡ other
              is other q = cc

              by_place : NoPlace (number_of refusal)
              by_place = subst StopsForPlace (sym (said (Err refusal) e).answer) (sum_stops l ns (part array from kept))
