-- Prune calls: an answered one of a formula of the exact kind balances.
use Prim.Native.Nat.{ℕ, suc, ◌-◌, ◌<◌, ◌≤◌}
use mathlib.Core.Path.{◌≡◌, refl, sym, ap, ◌∙◌, subst}
use mathlib.Core.Bool.{Bool, true, false, cond, not}
use mathlib.Core.List.{List, [], ◌∷◌, map}
use lib.ListN.{length, length-map}
use native.Mathlib.Omega.{arith}
use borrow.Author.Tests.{ltb-true, ltb-false, lt-ltb, leb-true}
use lib.Dec.{T, eqb, leb, ltb}
use lib.Ieee.{Float, binary64, of_bits, to_bits, le}
use Rattle.definitions.specs.Limits.{infinity_bits, most_terms}
use Rattle.definitions.specs.Refusals.{bad_threshold, bad_setting}
use Rattle.definitions.specs.Node.{Node, at}
use Rattle.definitions.specs.Intern.{Lent, Built, built, stopped}
use Rattle.definitions.specs.Patterns.{zero64, one64}
use Rattle.definitions.specs.Prune.{chain, keeps, filter, flatten, balanced_add, sum_of_kept}
use Rattle.definitions.specs.Threshold.{Threshold, bits, untouched, refusing, given}
use Rattle.definitions.specs.Settings.{threshold, first_pruning_setting, last_setting, setting}
use Rattle.definitions.specs.Machine.{Answer, stored, simplified, pruned, refused, outcome, pruned_as, prune_chain, prune_at, prune_call}
use Rattle.definitions.specs.Formula.{Tree, formula}
use Rattle.definitions.specs.Dyadic.{plus}
use Rattle.definitions.specs.Value.{Reading, number, sum_of, value_of}
use Rattle.definitions.specs.Exact.{Exact}
use Rattle.definitions.specs.Chain.{terms, is_add, chain_of, below_threshold, dropped, kept, Remains}
use Rattle.definitions.specs.Promise.{Balanced}
use Rattle.definitions.proofs.Stable.{opened}
use Rattle.definitions.proofs.Intern.{Sound, Step, Result, stay}
use Rattle.definitions.proofs.Numbers.{plus_zero_lem}
use Rattle.definitions.proofs.Patterns.{constantly, zero_number}
use Rattle.definitions.proofs.Prune.{sum_terms, split_sum, split_length, Flat, terms_ok, balances, ExactEach, exact_terms, SmallThreshold, threshold_of, kept_is, flat_filter, filter_length}
use Rattle.thresholds.proofs.NearestThresholds.{finite}
use Rattle.definitions.proofs.Calls.{Done}

pub remains_of : (l : Lent) (ns : List Node) (ks : List ℕ) → Sound ns → Flat ns ks → length ks ≤ 4096 → Result ns (λ ms i. Remains (map (formula ns) ks) (formula ms i)) (balanced_add 13 l ns ks)
unfolding balanced_add to_bits
remains_of l ns [] s f h = constantly l ns zero64 s zero_number
remains_of l ns (a ∷ []) s f h = (stay ns s, f.0.0, refl)
remains_of l ns (a ∷ b ∷ r) s f h = balances 12 l ns (a ∷ b ∷ r) s f (omega arith) h

remains_value : (ts : List Tree) (u : Tree) → Remains ts u → (r : Reading) → sum_of (map (value_of r) ts) ≡ value_of r u
unfolding value_of of_bits number
remains_value [] u e r = ap (value_of r) (sym e)
remains_value (a ∷ []) u e r = plus_zero_lem (value_of r a) ∙ ap (value_of r) (sym e)
remains_value (a ∷ b ∷ c) u e r = ap (λ l. sum_of (map (value_of r) l)) (sym e) ∙ sum_terms u r

of_chain : (s u : Tree) (t : Float) (k d : ℕ) → is_add s ≡ true → k ≡ length (filter (λ x. not (below_threshold t x)) (terms s)) → d ≡ length (filter (below_threshold t) (terms s)) → Remains (filter (λ x. not (below_threshold t x)) (terms s)) u
    → Balanced s s u t k d
of_chain s u t k d e ek ed h =
    let c : chain_of s ≡ terms s = ap (λ b. cond b (terms s) []) e in
    let K = filter (λ x. not (below_threshold t x)) in
    let D = filter (below_threshold t) in
    record {
      value = λ r. sym (sum_terms s r) ∙ split_sum (value_of r) (below_threshold t) (terms s) ∙ ap (λ v. plus v (sum_of (map (value_of r) (D (terms s))))) (remains_value (K (terms s)) u h r)
          ∙ ap (λ l. plus (value_of r u) (sum_of (map (value_of r) (D l)))) (sym c);
      counts = subst (λ b. cond b ((k ≡ length (kept t s)) × (d ≡ length (dropped t s))) ((k ≡ 1) × (d ≡ 0))) (sym e) (ek ∙ ap (λ l. length (K l)) (sym c), ed ∙ ap (λ l. length (D l)) (sym c));
      shape = subst (λ b. cond b (Remains (kept t s) u) (u ≡ s)) (sym e) (subst (λ l. Remains (K l) u) (sym c) h);
    }

no_chain : (s : Tree) (t : Float) → is_add s ≡ false → Balanced s s s t 1 0
no_chain s t e =
    let c : chain_of s ≡ [] = ap (λ b. cond b (terms s) []) e in
    record {
      value = λ r. sym (plus_zero_lem (value_of r s)) ∙ ap (λ l. plus (value_of r s) (sum_of (map (value_of r) (filter (below_threshold t) l)))) (sym c);
      counts = subst (λ b. cond b ((1 ≡ length (kept t s)) × (0 ≡ length (dropped t s))) ((◌≡◌ {A = ℕ} 1 1) × (◌≡◌ {A = ℕ} 0 0))) (sym e) (refl, refl);
      shape = subst (λ b. cond b (Remains (kept t s) s) (s ≡ s)) (sym e) refl;
    }

abbrev pub PruneSays : List Node → ℕ → ℕ → List Node → Answer → Type 0
PruneSays ns i t ms (stored j) = Unit {0}
PruneSays ns i t ms (simplified j b k) = Unit {0}
PruneSays ns i t ms (pruned u k d) = (i < length ns) × (u < length ms) × (T (le (of_bits binary64 t) one64) → Exact (formula ns i) → Balanced (formula ns i) (formula ns i) (formula ms u) (of_bits binary64 t) k d)
PruneSays ns i t ms (refused r) = Unit {0}

-- a prune at a threshold that is not refused
pub prunes_at : (l : Lent) (ns : List Node) (i t : ℕ) → t ≤ infinity_bits → Sound ns → Done ns (PruneSays ns i t) (prune_call l ns i (bits t))
unfolding prune_call prune_at prune_chain chain sum_of_kept
prunes_at l ns i t ht s = one (ltb i (length ns)) refl
  where
    n : Node
    n = at ns i

    v : Float
    v = of_bits binary64 t

    ts : List ℕ
    ts = flatten (suc i) ns i

    ks : List ℕ
    ks = filter (keeps ns v) ts

    add_is : i < length ns → is_add (formula ns i) ≡ eqb n.kind 2
    add_is h = ap is_add (opened ns i h (s i h).low)

    close : i < length ns → eqb n.kind 2 ≡ true → Flat ns ts → map (formula ns) ts ≡ terms (formula ns i) → (m : Built) → Result ns (λ ms j. Remains (map (formula ns) ks) (formula ms j)) m
        → Done ns (PruneSays ns i t) (pruned_as (length ks) (length ts - length ks) m)
    close h ek fl sm (stopped ms r) x = record { step = x; says = tt }
    close h ek fl sm (built ms j) x = record {
      step = x.0;
      says = (
        h,
        x.1,
        λ tu ex.
            let th = threshold_of t ht tu in
            let K = filter (λ u. not (below_threshold v u)) in
            let ke : map (formula ns) ks ≡ K (terms (formula ns i)) = kept_is ns s v th ts fl (subst ExactEach (sym sm) (exact_terms (formula ns i) ex)) ∙ ap K sm in
            let lk : length ks ≡ length (K (terms (formula ns i))) = sym (length-map ks (formula ns)) ∙ ap length ke in
            let lt' : length ts ≡ length (terms (formula ns i)) = sym (length-map ts (formula ns)) ∙ ap length sm in
            of_chain (formula ns i) (formula ms j) v (length ks) (length ts - length ks) (add_is h ∙ ek) lk
            (omega (arith, lk, lt', split_length (below_threshold v) (terms (formula ns i))))
            (subst (λ l. Remains l (formula ms j)) ke x.2),
      );
    }

    three : i < length ns → eqb n.kind 2 ≡ true → (b : Bool) → ltb most_terms (length ts) ≡ b
        → Done ns (PruneSays ns i t) (cond b (outcome (refused 23) ns) (pruned_as (length ks) (length ts - length ks) (balanced_add 13 l ns ks)))
    three h ek true e = record { step = stay ns s; says = tt }
    three h ek false e =
        let q = terms_ok ns s (suc i) i (omega arith) h in
        close h ek q.flat q.same (balanced_add 13 l ns ks)
        (remains_of l ns ks s (flat_filter ns (keeps ns v) ts q.flat) (omega (arith, filter_length (keeps ns v) ts, ltb-false most_terms (length ts) e)))

    two : i < length ns → (b : Bool) → eqb n.kind 2 ≡ b → Done ns (PruneSays ns i t) (cond b (prune_chain l ns v ts) (outcome (pruned i 1 0) ns))
    two h true e = three h e (ltb most_terms (length ts)) refl
    two h false e = record { step = stay ns s; says = (h, h, λ tu ex. no_chain (formula ns i) v (add_is h ∙ e)) }

    one : (b : Bool) → ltb i (length ns) ≡ b → Done ns (PruneSays ns i t) (cond b (cond (eqb n.kind 2) (prune_chain l ns v ts) (outcome (pruned i 1 0) ns)) (outcome (refused 4) ns))
    one true e = two (ltb-true i (length ns) e) (eqb n.kind 2) refl
    one false e = record { step = stay ns s; says = tt }

-- without a threshold every root is answered itself, and no node is made
pub untouched_is : (l : Lent) (ns : List Node) (i : ℕ) → i < length ns → prune_call l ns i untouched ≡ outcome (pruned i 1 0) ns
unfolding prune_call prune_at
untouched_is l ns i h = simp (lt-ltb _ _ h)

-- ---- a threshold of either making

-- it is refused unless its bits are at most infinity's
abbrev pub Taken : Threshold → Type 0
Taken (bits t) = t ≤ infinity_bits
Taken untouched = Unit {0}
Taken (refusing number) = Unit {0}

pub given_taken : (t : ℕ) → Taken (given t)
given_taken t = by (leb t infinity_bits) refl
  where
    by : (b : Bool) → leb t infinity_bits ≡ b → Taken (cond b (bits t) (refusing bad_threshold))
    by true e = leb-true t infinity_bits e
    by false e = tt

pub setting_taken : (n : ℕ) → Taken (setting n)
unfolding setting
setting_taken n = by (ltb n first_pruning_setting) (leb n last_setting) refl refl
  where
    by : (a b : Bool) → ltb n first_pruning_setting ≡ a → leb n last_setting ≡ b → Taken (cond a untouched (cond b (bits (threshold n)) (refusing bad_setting)))
    by true b low high = tt
    by false true low high = let below = finite n (ltb-false _ _ low) (leb-true _ _ high) in omega arith
    by false false low high = tt

-- whichever of two answers stands beside the nodes as they were
either_stays : (ns : List Node) → Sound ns → (b : Bool) (first second : Answer) → Step ns (cond b (outcome first ns) (outcome second ns)).nodes
either_stays ns s true first second = stay ns s
either_stays ns s false first second = stay ns s

pub prune_steps : (l : Lent) (ns : List Node) (i : ℕ) (t : Threshold) → Taken t → Sound ns → Step ns (prune_call l ns i t).nodes
unfolding prune_call prune_at
prune_steps l ns i (bits t) h s = (prunes_at l ns i t h s).step
prune_steps l ns i untouched h s = either_stays ns s (ltb i (length ns)) _ _
prune_steps l ns i (refusing number) h s = either_stays ns s (ltb i (length ns)) _ _
