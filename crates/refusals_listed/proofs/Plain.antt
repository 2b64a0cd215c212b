-- Each call of the plain machine answers a result or a refusal that is listed for it.
use Prim.Native.Nat.{ℕ, ◌+◌, ◌-◌, min}
use mathlib.Core.Path.{◌≡◌, refl, sym, ap, subst}
use mathlib.Core.Bool.{Bool, true, false, ◌&&◌, cond, true≢false}
use mathlib.Core.List.{List, [], ◌∷◌, ◌++◌}
use mathlib.Core.Logic.{⊎_elim}
use mathlib.Core.Option.{Option, none, some}
use lib.ListN.{length, get_or}
use lib.Dec.{eqb, leb, ltb, T}
use lib.Ieee.{Float, binary64, of_bits, nan_bits}
use native.Mathlib.Omega.{arith}
use borrow.Author.Tests.{ne_eqb}
use Rattle.definitions.specs.Limits.{most_depth, most_terms, infinity_bits}
use Rattle.definitions.specs.Refusals.{bad_operand, bad_code, bad_child_count, bad_threshold, bad_setting, bad_name_length, no_node_place, no_slot_place, too_many_terms, no_name_place, not_a_number}
use Rattle.definitions.specs.Node.{Node, at, constant_kind, add_kind, nan_constant, child_count_listed}
use Rattle.definitions.specs.Intern.{Lent, Built, built, stopped, intern}
use Rattle.definitions.specs.Walk.{Mode, Walked, finished, spent, halted, walk_root}
use Rattle.definitions.specs.Prune.{chain, keeps, filter, sum_of_kept}
use Rattle.definitions.specs.Threshold.{Threshold, bits, untouched, refusing, given}
use Rattle.definitions.specs.Settings.{first_pruning_setting, last_setting, threshold, setting}
use Rattle.definitions.specs.Machine as M
use Rattle.definitions.specs.Machine.{Call, Answer, Outcome, outcome, Request, requested, all_below, store_call, simplify_call, prune_chain, prune_at, prune_call, call}
use Rattle.definitions.specs.Names as N
use Rattle.definitions.specs.Making.{Made, made, stopped as stopped_made, make}
use Rattle.definitions.specs.Controller.{LentLists, Controller, ControllerAnswer, refused, building, simplifying, pruning, pruning_by_setting, naming, reading, from_store, from_names, from_made, on_text, controller_call}
use Rattle.definitions.specs.Promise.{StopsReading, no_name, no_node, no_slots}
use Rattle.definitions.proofs.Stopping.{NoPlace, StopsForPlace, intern_stops}
use Rattle.definitions.proofs.ReadingStops.{reading_stops}
use Rattle.text_language.specs.Grammar.{Expr}
use Rattle.text_language.specs.Reading.{Refuses, empty, long, outside, deep, nan, Denotes, Verdict, refuses, denotes, verdict, Judged}
use Rattle.text_language.proofs.Reading.{judged}
use Rattle.walk.proofs.Refusing.{refused_full}
use Rattle.sums.proofs.Halving.{sum_stops}
use Rattle.refusals_listed.specs.Listed.{among, ResultOr, place_refusals, store_refusals, name_refusals, listed_refusals, AnswersListed}

-- a number that is equal to one of the list
same_among : (ks : List ℕ) (number k : ℕ) → number ≡ k → T (among k ks) → T (among number ks)
same_among ks number k e h = subst (λ (n : ℕ). T (among n ks)) (sym e) h

-- 21 and 22, in a list that has both
place_among : (ks : List ℕ) (number : ℕ) → T (among no_node_place ks) → T (among no_slot_place ks) → NoPlace number → T (among number ks)
place_among ks number p q h = ⊎_elim (λ e. same_among ks number no_node_place e p) (λ e. same_among ks number no_slot_place e q) h

-- ---- store calls

-- k before other numbers, if it may be met
abbrev before : Bool → ℕ → List ℕ → List ℕ
before b k ks = cond b (k ∷ ks) ks

-- which of 5, 6 and 4 may be met, before 21 and 22
abbrev checked : Bool → Bool → Bool → List ℕ
checked codes counts operands = before codes bad_code (before counts bad_child_count (before operands bad_operand place_refusals))

places_last : (x y z : Bool) (number : ℕ) → NoPlace number → T (among number (checked x y z))
places_last true true true number h = place_among (checked true true true) number tt tt h
places_last true true false number h = place_among (checked true true false) number tt tt h
places_last true false true number h = place_among (checked true false true) number tt tt h
places_last true false false number h = place_among (checked true false false) number tt tt h
places_last false true true number h = place_among (checked false true true) number tt tt h
places_last false true false number h = place_among (checked false true false) number tt tt h
places_last false false true number h = place_among (checked false false true) number tt tt h
places_last false false false number h = place_among (checked false false false) number tt tt h

-- a request, of which some checks cannot fail
store_listed : (l : Lent) (ns : List Node) (r : Request) (x y z : Bool)
    → (x ≡ false → r.listed ≡ true)
    → (y ≡ false → child_count_listed r.node.kind r.node.payload (length r.node.children) ≡ true)
    → (z ≡ false → all_below (length ns) r.node.children ≡ true)
    → nan_constant r.node.kind r.node.payload ≡ false
    → ResultOr (checked x y z) (from_store (store_call l ns r).answer)
unfolding store_call
store_listed l ns r x y z p q o n =
    subst (λ (t : Bool). ResultOr (checked x y z)
    (from_store (cond r.listed (cond t (outcome (M.refused not_a_number) ns) (cond (child_count_listed r.node.kind r.node.payload (length r.node.children)) (cond (all_below (length ns) r.node.children) (M.stored_as (intern l ns r.node)) (outcome (M.refused bad_operand) ns)) (outcome (M.refused bad_child_count) ns))) (outcome (M.refused bad_code) ns)).answer)) (sym n)
    (by r.listed (child_count_listed r.node.kind r.node.payload (length r.node.children)) (all_below (length ns) r.node.children) x y z p q o)
  where
    interned : (b : Built) → StopsForPlace b → (x y z : Bool) → ResultOr (checked x y z) (from_store (M.stored_as b).answer)
    interned (built ms i) h x y z = tt
    interned (stopped ms number) h x y z = places_last x y z number h

    by : (a b c x y z : Bool) → (x ≡ false → a ≡ true) → (y ≡ false → b ≡ true) → (z ≡ false → c ≡ true)
        → ResultOr (checked x y z)
        (from_store (cond a (cond b (cond c (M.stored_as (intern l ns r.node)) (outcome (M.refused bad_operand) ns)) (outcome (M.refused bad_child_count) ns)) (outcome (M.refused bad_code) ns)).answer)
    by true true true x y z p q o = interned (intern l ns r.node) (intern_stops l ns r.node) x y z
    by true true false true true true p q o = tt
    by true true false true false true p q o = tt
    by true true false false true true p q o = tt
    by true true false false false true p q o = tt
    by true true false x y false p q o = absurd (true≢false (sym (o refl)))
    by true false c true true z p q o = tt
    by true false c false true z p q o = tt
    by true false c x false z p q o = absurd (true≢false (sym (q refl)))
    by false b c true y z p q o = tt
    by false b c false y z p q o = absurd (true≢false (sym (p refl)))

-- a check that is passed by computing
passes : {b : Bool} → b ≡ true → false ≡ false → b ≡ true
passes e x = e

-- one that may fail
may_fail : {b : Bool} → true ≡ false → b ≡ true
may_fail e = absurd (true≢false e)

-- operands alone, as many as the node has children
operands_listed : (l : Lent) (ns : List Node) (r : Request) → r.listed ≡ true
    → child_count_listed r.node.kind r.node.payload (length r.node.children) ≡ true
    → nan_constant r.node.kind r.node.payload ≡ false → ResultOr (bad_operand ∷ place_refusals) (from_store (store_call l ns r).answer)
operands_listed l ns r p q n = store_listed l ns r false false true (passes p) (passes q) may_fail n

-- an operator is no constant
operator_number : (o p : ℕ) → nan_constant (add_kind + o) p ≡ false
operator_number o p = ap (λ (t : Bool). t && nan_bits binary64 p) (ne_eqb (add_kind + o) constant_kind (λ q. absurd (omega arith)))

-- a constant: 10, or no place
constant_listed : (l : Lent) (ns : List Node) (b : ℕ) → ResultOr (not_a_number ∷ place_refusals) (from_store (store_call l ns (requested (M.constant b))).answer)
unfolding store_call child_count_listed
constant_listed l ns b = by (nan_bits binary64 b)
  where
    interned : (m : Built) → StopsForPlace m → ResultOr (not_a_number ∷ place_refusals) (from_store (M.stored_as m).answer)
    interned (built ms i) h = tt
    interned (stopped ms number) h = place_among (not_a_number ∷ place_refusals) number tt tt h

    by : (t : Bool) → ResultOr (not_a_number ∷ place_refusals)
        (from_store (cond t (outcome (M.refused not_a_number) ns) (M.stored_as (intern l ns (requested (M.constant b)).node))).answer)
    by true = tt
    by false = interned (intern l ns (requested (M.constant b)).node) (intern_stops l ns (requested (M.constant b)).node)

builds_listed : (l : Lent) (ns : List Node) (c : M.Store) → ResultOr (store_refusals c) (from_store (store_call l ns (requested c)).answer)
unfolding child_count_listed
builds_listed l ns (M.variable s) = store_listed l ns (requested (M.variable s)) false false false (passes refl) (passes refl) (passes refl) refl
builds_listed l ns (M.constant b) = constant_listed l ns b
builds_listed l ns (M.add a b) = operands_listed l ns (requested (M.add a b)) refl refl refl
builds_listed l ns (M.sub a b) = operands_listed l ns (requested (M.sub a b)) refl refl refl
builds_listed l ns (M.mul a b) = operands_listed l ns (requested (M.mul a b)) refl refl refl
builds_listed l ns (M.div a b) = operands_listed l ns (requested (M.div a b)) refl refl refl
builds_listed l ns (M.pow a b) = operands_listed l ns (requested (M.pow a b)) refl refl refl
builds_listed l ns (M.modulo a b) = operands_listed l ns (requested (M.modulo a b)) refl refl refl
builds_listed l ns (M.neg a) = operands_listed l ns (requested (M.neg a)) refl refl refl
builds_listed l ns (M.operator o f c) = store_listed l ns (requested (M.operator o f c)) true true true may_fail may_fail may_fail (operator_number o 0)
builds_listed l ns (M.function f c) = store_listed l ns (requested (M.function f c)) false true true (passes refl) may_fail may_fail refl
builds_listed l ns (M.select a b c) = operands_listed l ns (requested (M.select a b c)) refl refl refl
builds_listed l ns (M.if_else a b c) = operands_listed l ns (requested (M.if_else a b c)) refl refl refl
builds_listed l ns (M.for_loop a b c d) = operands_listed l ns (requested (M.for_loop a b c d)) refl refl refl
builds_listed l ns (M.control o c) = store_listed l ns (requested (M.control o c)) true true true may_fail may_fail may_fail refl

-- ---- simplify

-- an answer that is refused for want of a place alone
full_listed : (ks : List ℕ) (a : Answer) → T (among no_node_place ks) → T (among no_slot_place ks) → ((number : ℕ) → a ≡ M.refused number → NoPlace number)
    → ResultOr ks (from_store a)
full_listed ks (M.stored id) p q f = tt
full_listed ks (M.simplified id over steps) p q f = tt
full_listed ks (M.pruned id kept dropped) p q f = tt
full_listed ks (M.refused number) p q f = place_among ks number p q (f number refl)

simplifies_listed : (m : Mode) (l : Lent) (ns : List Node) (i depth budget : ℕ)
    → ResultOr (bad_code ∷ bad_operand ∷ place_refusals) (from_store (simplify_call m l ns i depth budget).answer)
unfolding simplify_call
simplifies_listed m l ns i depth budget = by (leb depth most_depth) (ltb i (length ns))
  where
    by : (a b : Bool) → ResultOr (bad_code ∷ bad_operand ∷ place_refusals)
        (from_store (cond a (cond b (M.walked_as i (walk_root m l depth budget ns i)) (outcome (M.refused bad_operand) ns)) (outcome (M.refused bad_code) ns)).answer)
    by true true = full_listed (bad_code ∷ bad_operand ∷ place_refusals) (M.walked_as i (walk_root m l depth budget ns i)).answer tt tt (λ number. refused_full l m depth budget ns i number)
    by true false = tt
    by false b = tt

-- ---- prune

-- what a prune may answer, whose threshold is refused with a number
abbrev prune_refusals : ℕ → List ℕ
prune_refusals number = bad_operand ∷ number ∷ too_many_terms ∷ place_refusals

-- bits, none, or the one refusal
abbrev RefusedAs : ℕ → Threshold → Type 0
RefusedAs number (bits t) = Unit {0}
RefusedAs number untouched = Unit {0}
RefusedAs number (refusing k) = k ≡ number

module _ (number : ℕ) (four : T (among bad_operand (prune_refusals number))) (own : T (among number (prune_refusals number))) (many : T (among too_many_terms (prune_refusals number))) (nodes : T (among no_node_place (prune_refusals number))) (slots : T (among no_slot_place (prune_refusals number))) where
  sum_listed : (kept dropped : ℕ) (b : Built) → StopsForPlace b → ResultOr (prune_refusals number) (from_store (M.pruned_as kept dropped b).answer)
  sum_listed kept dropped (built ns i) s = tt
  sum_listed kept dropped (stopped ns k) s = place_among (prune_refusals number) k nodes slots s

  chain_listed : (l : Lent) (ns : List Node) (t : Float) (ts : List ℕ) → ResultOr (prune_refusals number) (from_store (prune_chain l ns t ts).answer)
  unfolding prune_chain
  chain_listed l ns t ts = by (ltb most_terms (length ts)) (filter (keeps ns t) ts)
    where
      by : (a : Bool) (ks : List ℕ) → ResultOr (prune_refusals number) (from_store (cond a (outcome (M.refused too_many_terms) ns) (M.pruned_as (length ks) (length ts - length ks) (sum_of_kept l ns ks))).answer)
      by true ks = many
      by false ks = sum_listed (length ks) (length ts - length ks) (sum_of_kept l ns ks) (sum_stops l ns ks)

  at_listed : (l : Lent) (ns : List Node) (i : ℕ) (t : Threshold) → RefusedAs number t → ResultOr (prune_refusals number) (from_store (prune_at l ns i t).answer)
  unfolding prune_at
  at_listed l ns i (bits t) h = by (eqb (at ns i).kind add_kind)
    where
      by : (a : Bool) → ResultOr (prune_refusals number) (from_store (cond a (prune_chain l ns (of_bits binary64 t) (chain ns i)) (outcome (M.pruned i 1 0) ns)).answer)
      by true = chain_listed l ns (of_bits binary64 t) (chain ns i)
      by false = tt
  at_listed l ns i untouched h = tt
  at_listed l ns i (refusing k) h = same_among (prune_refusals number) k number h own

  prunes_listed : (l : Lent) (ns : List Node) (i : ℕ) (t : Threshold) → RefusedAs number t → ResultOr (prune_refusals number) (from_store (prune_call l ns i t).answer)
  unfolding prune_call
  prunes_listed l ns i t h = by (ltb i (length ns))
    where
      by : (a : Bool) → ResultOr (prune_refusals number) (from_store (cond a (prune_at l ns i t) (outcome (M.refused bad_operand) ns)).answer)
      by true = at_listed l ns i t h
      by false = four

given_refused : (t : ℕ) → RefusedAs bad_threshold (given t)
given_refused t = by (leb t infinity_bits)
  where
    by : (a : Bool) → RefusedAs bad_threshold (cond a (bits t) (refusing bad_threshold))
    by true = tt
    by false = refl

setting_refused : (n : ℕ) → RefusedAs bad_setting (setting n)
unfolding setting
setting_refused n = by (ltb n first_pruning_setting) (leb n last_setting)
  where
    by : (a b : Bool) → RefusedAs bad_setting (cond a untouched (cond b (bits (threshold n)) (refusing bad_setting)))
    by true b = tt
    by false true = tt
    by false false = refl

-- ---- names

names_listed : (lent : ℕ) (names : List (List ℕ)) (c : N.NameCall) → ResultOr (name_refusals c) (from_names (N.name_call lent names c).answer)
unfolding N.name_call
names_listed lent names (N.intern_name w) = by (N.length_allowed w) (N.number_from names 0 w)
  where
    room : (b : Bool) → ResultOr (name_refusals (N.intern_name w))
        (from_names (cond b (N.answers (N.numbered (length names)) (names ++ w ∷ [])) (N.answers (N.refused no_name_place) names)).answer)
    room true = tt
    room false = tt

    by : (a : Bool) (o : Option ℕ) → ResultOr (name_refusals (N.intern_name w)) (from_names (cond a (N.intern_at lent names w o) (N.answers (N.refused bad_name_length) names)).answer)
    by true (some n) = tt
    by true none = room (ltb (length names) (min lent N.most_names))
    by false o = tt
names_listed lent names (N.lookup_name w) = by (N.length_allowed w) (N.number_from names 0 w)
  where
    by : (a : Bool) (o : Option ℕ) → ResultOr (name_refusals (N.lookup_name w)) (from_names (cond a (N.answers (N.lookup_at o) names) (N.answers (N.refused bad_name_length) names)).answer)
    by true (some n) = tt
    by true none = tt
    by false o = tt
names_listed lent names (N.name_of n) = by (ltb n (length names))
  where
    by : (a : Bool) → ResultOr [] (from_names (cond a (N.answers (N.named (get_or names n [])) names) (N.answers N.unknown names)).answer)
    by true = tt
    by false = tt

-- ---- readings

stop_among : (text : List ℕ) (number : ℕ) → StopsReading number → T (among number (listed_refusals (reading text)))
stop_among text number no_name = tt
stop_among text number no_node = tt
stop_among text number no_slots = tt

refusal_among : (text : List ℕ) (number : ℕ) → Refuses text number → T (among number (listed_refusals (reading text)))
refusal_among text number (empty e) = tt
refusal_among text number (long h) = tt
refusal_among text number (outside z h) = tt
refusal_among text number (deep z t h) = tt
refusal_among text number (nan z t d h) = tt

reads_listed : (l : LentLists) (s : Controller) (text : List ℕ) → ResultOr (listed_refusals (reading text)) (on_text l s (verdict text)).answer
reads_listed l s text = by (verdict text) (judged text)
  where
    making : (e : Expr) → Denotes text e → (m : Made) → make l e s ≡ m → ResultOr (listed_refusals (reading text)) (from_made m).answer
    making e h (made i t) q = tt
    making e h (stopped_made number t) q = stop_among text number (reading_stops l text e s number h (ap (λ (m : Made). (from_made m).answer) q))

    by : (v : Verdict) → Judged text v → ResultOr (listed_refusals (reading text)) (on_text l s v).answer
    by (refuses number) h = refusal_among text number h
    by (denotes e) h = making e h (make l e s) refl

-- ---- every call

pub answers_listed : AnswersListed
unfolding controller_call call
answers_listed l s (building c) = builds_listed l.store s.nodes c
answers_listed l s (simplifying m i depth budget) = simplifies_listed m l.store s.nodes i depth budget
answers_listed l s (pruning i t) = prunes_listed bad_threshold tt tt tt tt tt l.store s.nodes i (given t) (given_refused t)
answers_listed l s (pruning_by_setting i n) = prunes_listed bad_setting tt tt tt tt tt l.store s.nodes i (setting n) (setting_refused n)
answers_listed l s (naming c) = names_listed l.names s.names c
answers_listed l s (reading text) = reads_listed l s text
