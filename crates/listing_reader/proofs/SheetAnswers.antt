-- The answer of a sheet on a sound store is one of the nodes that the sheet leaves, so that its listing lists it.
use Prim.Native.Nat.{ℕ, suc, ◌-◌, ◌<◌}
use mathlib.Core.Path.{◌≡◌, refl, sym, ap, ◌∙◌, subst}
use mathlib.Core.Bool.{Bool, true, false, cond, ◌&&◌, ◌||◌}
use mathlib.Core.Option.{Option, none, some}
use mathlib.Core.List.{List, [], ◌∷◌, ◌++◌, map, append-nil}
use lib.ListN.{length, get_or}
use lib.Dec.{T, eqb, leb, ltb}
use lib.Ieee.{binary64, of_bits}
use native.Mathlib.Omega.{arith}
use borrow.Author.Tests.{eqb-true, leb-true, ltb-true, ltb-false}
use Rattle.definitions.specs.Limits.{most_terms, most_depth, most_operands}
use Rattle.definitions.specs.Refusals.{bad_operand, bad_code, not_a_number, bad_child_count, too_many_terms}
use Rattle.definitions.specs.Node.{Node, at, add_kind, sub_kind, nan_constant, child_count_listed}
use Rattle.definitions.specs.Intern.{Lent, Built, built, stopped, intern}
use Rattle.definitions.specs.Walk.{Mode, Walked, finished, spent, halted, walk_root}
use Rattle.definitions.specs.Prune.{chain, keeps, filter, flatten, sum_of_kept}
use Rattle.definitions.specs.Threshold.{Threshold, bits, untouched, refusing, given}
use Rattle.definitions.specs.Settings.{setting}
use Rattle.definitions.specs.Formula.{formula}
use Rattle.definitions.specs.Chain.{Remains}
use Rattle.definitions.specs.Machine.{Call, store, simplify, prune, prune_by_setting, Answer, stored, simplified, pruned, refused, Outcome, outcome, Request, requested, all_below, stored_as, store_call, walked_as, simplify_call, pruned_as, prune_chain, prune_at, prune_call, State, call, answers, run}
use Rattle.definitions.specs.Sheet.{Ran, sheet}
use Rattle.definitions.specs.Listing.{last_of}
use Rattle.definitions.specs.SheetCalls.{sheet_calls, SheetEnds, whole, by_sheet, by_call, AsCalls}
use Rattle.definitions.proofs.Stable.{Lower}
use Rattle.definitions.proofs.Intern.{Sound, Result}
use Rattle.definitions.proofs.Patterns.{and_true}
use Rattle.definitions.proofs.Floats.{laws}
use Rattle.definitions.proofs.Prune.{terms_ok, flat_filter, filter_length}
use Rattle.definitions.proofs.Calls.{StoreSays, builds}
use Rattle.definitions.proofs.SimplifyCalls.{SimplifySays, simplifies}
use Rattle.definitions.proofs.PruneCalls.{remains_of}
use Rattle.definitions.proofs.Going.{call_step}
use Rattle.definitions.proofs.SheetCalls.{sheet_as_calls}
use Rattle.arena.specs.declared.DagArena.{DagArena}
use Rattle.kinds.specs.Kind.{listed as kind_listed, operator_arity}
use Rattle.store.specs.Sound.{Sound as StoreSound}
use Rattle.store.specs.View.{nodes_in}
use Rattle.store.specs.Memory.{Memory, model}
use Rattle.store.proofs.Viewing.{plain_length}
use Rattle.store.proofs.Reading.{child_low, lookup_of, listed_at, number_at}
use Rattle.listing_lines.specs.Outcome.{answered_as, outcome_of}
use Rattle.listing_reader.specs.Listing.{AnswerListed}

-- ---- one call

-- an answer's id is below a count
abbrev Below : Answer → ℕ → Type 0
Below (stored i) count = i < count
Below (simplified i b steps) count = i < count
Below (pruned i kept dropped) count = i < count
Below (refused r) count = Unit {0}

abbrev IsNode : Outcome → Type 0
IsNode o = Below o.answer (length o.nodes)

store_node : (l : Lent) (ns : List Node) (r : Request) → Sound ns → IsNode (store_call l ns r)
unfolding store_call
store_node l ns r s =
    go r.listed (nan_constant r.node.kind r.node.payload) (child_count_listed r.node.kind r.node.payload (length r.node.children)) (all_below (length ns) r.node.children) (intern l ns r.node) (builds l ns r s).says
  where
    answered : Bool → Bool → Bool → Bool → Built → Outcome
    answered a n b c m = cond a (cond n (outcome (refused not_a_number) ns) (cond b (cond c (stored_as m) (outcome (refused bad_operand) ns)) (outcome (refused bad_child_count) ns))) (outcome (refused bad_code) ns)

    go : (a n b c : Bool) (m : Built) → StoreSays ns r.node (answered a n b c m).nodes (answered a n b c m).answer → IsNode (answered a n b c m)
    go true true b c m h = tt
    go true false true true (built ms i) h = h.0
    go true false true true (stopped ms k) h = tt
    go true false true false m h = tt
    go true false false c m h = tt
    go false n b c m h = tt

simplify_node : (m : Mode) (l : Lent) (ns : List Node) (i depth budget : ℕ) → Sound ns → IsNode (simplify_call m l ns i depth budget)
unfolding simplify_call
simplify_node m l ns i depth budget s = go (leb depth most_depth) (ltb i (length ns)) (walk_root m l depth budget ns i) (simplifies laws l m ns i depth budget s).says
  where
    answered : Bool → Bool → Walked → Outcome
    answered a b w = cond a (cond b (walked_as i w) (outcome (refused bad_operand) ns)) (outcome (refused bad_code) ns)

    go : (a b : Bool) (w : Walked) → SimplifySays ns i (answered a b w).nodes (answered a b w).answer → IsNode (answered a b w)
    go true true (finished ms j k) h = h.1
    go true true (spent ms k) h = h.1
    go true true (halted ms r) h = tt
    go true false w h = tt
    go false b w h = tt

-- a chain's kept terms, summed
sum_node : (ns : List Node) (kept dropped : ℕ) (Q : List Node → ℕ → Type 0) (m : Built) → Result ns Q m → IsNode (pruned_as kept dropped m)
sum_node ns kept dropped Q (built ms j) h = h.1
sum_node ns kept dropped Q (stopped ms r) h = tt

prune_node : (l : Lent) (ns : List Node) (i : ℕ) (t : Threshold) → Sound ns → IsNode (prune_call l ns i t)
unfolding prune_call prune_at prune_chain chain sum_of_kept
prune_node l ns i (refusing r) s = go (ltb i (length ns))
  where
    go : (b : Bool) → IsNode (cond b (outcome (refused r) ns) (outcome (refused bad_operand) ns))
    go true = tt
    go false = tt
prune_node l ns i untouched s = go (ltb i (length ns)) refl
  where
    go : (b : Bool) → ltb i (length ns) ≡ b → IsNode (cond b (outcome (pruned i 1 0) ns) (outcome (refused bad_operand) ns))
    go true e = ltb-true i (length ns) e
    go false e = tt
prune_node l ns i (bits t) s = one (ltb i (length ns)) refl
  where
    ts : List ℕ
    ts = flatten (suc i) ns i

    ks : List ℕ
    ks = filter (keeps ns (of_bits binary64 t)) ts

    three : i < length ns → (b : Bool) → ltb most_terms (length ts) ≡ b → IsNode (cond b (outcome (refused too_many_terms) ns) (pruned_as (length ks) (length ts - length ks) (sum_of_kept l ns ks)))
    three h true e = tt
    three h false e =
        let q = terms_ok ns s (suc i) i (omega arith) h in
        sum_node ns (length ks) (length ts - length ks) (λ ms j. Remains (map (formula ns) ks) (formula ms j)) (sum_of_kept l ns ks)
        (remains_of l ns ks s (flat_filter ns (keeps ns (of_bits binary64 t)) ts q.flat) (omega (arith, filter_length (keeps ns (of_bits binary64 t)) ts, ltb-false most_terms (length ts) e)))

    two : i < length ns → (b : Bool) → IsNode (cond b (prune_chain l ns (of_bits binary64 t) ts) (outcome (pruned i 1 0) ns))
    two h true = three h (ltb most_terms (length ts)) refl
    two h false = h

    one : (b : Bool) → ltb i (length ns) ≡ b → IsNode (cond b (cond (eqb (at ns i).kind add_kind) (prune_chain l ns (of_bits binary64 t) ts) (outcome (pruned i 1 0) ns)) (outcome (refused bad_operand) ns))
    one true e = two (ltb-true i (length ns) e) (eqb (at ns i).kind add_kind)
    one false e = tt

call_node : (l : Lent) (s : State) (c : Call) → Sound s.nodes → Below (call l s c).answer (length (call l s c).left.nodes)
unfolding call
call_node l s (store c) h = store_node l s.nodes (requested c) h
call_node l s (simplify m i depth budget) h = simplify_node m l s.nodes i depth budget h
call_node l s (prune i t) h = prune_node l s.nodes i (given t) h
call_node l s (prune_by_setting i n) h = prune_node l s.nodes i (setting n) h

-- ---- a list of calls

listed : (a : Answer) (count : ℕ) → Below a count → AnswerListed (answered_as a) count
listed (stored i) count h = h
listed (simplified i true steps) count h = h
listed (simplified i false steps) count h = h
listed (pruned i kept dropped) count h = h
listed (refused r) count h = tt

last_node : (l : Lent) (s : State) (cs : List Call) (a : Answer) → Sound s.nodes → Below a (length s.nodes) → Below (last_of a (answers l s cs)) (length (run l s cs).nodes)
unfolding answers run
last_node l s [] a h b = b
last_node l s (c ∷ cs) a h b = last_node l (call l s c).left cs (call l s c).answer (call_step l s.nodes c h).sound (call_node l s c h)

calls_listed : (l : Lent) (s : State) (cs : List Call) → Sound s.nodes → AnswerListed (outcome_of none (answers l s cs)) (length (run l s cs).nodes)
unfolding answers run
calls_listed l s [] h = tt
calls_listed l s (c ∷ cs) h =
    listed (last_of (call l s c).answer (answers l (call l s c).left cs)) (length (run l (call l s c).left cs).nodes)
    (last_node l (call l s c).left cs (call l s c).answer (call_step l s.nodes c h).sound (call_node l s c h))

-- ---- a sheet on a state whose nodes are sound

as_calls_listed : (l : Lent) (s : State) (cs : List Call) (r : Ran) → Sound s.nodes → AsCalls l [] s cs r → AnswerListed (outcome_of r.refusal r.answers) (length r.left.nodes)
as_calls_listed l s cs r h d = go r.refusal d.last d.ends d.same_answers
  where
    go : (o : Option (ℕ × ℕ)) (last : List Answer) → SheetEnds r.answers o last → answers l s cs ≡ r.answers ++ last → AnswerListed (outcome_of o r.answers) (length r.left.nodes)
    go none [] whole e =
        subst (λ (x : State). AnswerListed (outcome_of none r.answers) (length x.nodes)) (sym d.same_state)
        (subst (λ (al : List Answer). AnswerListed (outcome_of none al) (length (run l s cs).nodes)) (e ∙ append-nil r.answers) (calls_listed l s cs h))
    go (some x) [] (by_sheet k m) e = tt
    go none (a ∷ _) x5 e = elim x5 [ ]
    go (some x) (a ∷ []) (by_call k) e = tt
    go (some x) (a ∷ (_ ∷ _)) x9 e = elim x9 [ ]

sheet_listed : (l : Lent) (s : State) (bytes : List ℕ) → Sound s.nodes → AnswerListed (outcome_of (sheet l s bytes).refusal (sheet l s bytes).answers) (length (sheet l s bytes).left.nodes)
sheet_listed l s bytes h = as_calls_listed l s (sheet_calls l s bytes) (sheet l s bytes) h (sheet_as_calls l s bytes)

-- ---- the plain nodes of a sound store

-- "Add and Mul one to four", "other operators two"
filled : (kind payload count : ℕ) → kind_listed kind payload count ≡ true → T (eqb kind add_kind || eqb kind sub_kind) → 0 < count
unfolding kind_listed operator_arity
filled kind payload count h = go (eqb kind add_kind) (eqb kind sub_kind) refl refl
  where
    go : (a b : Bool) → eqb kind add_kind ≡ a → eqb kind sub_kind ≡ b → T (a || b) → 0 < count
    go true b e f t =
        let p = and_true (eqb payload 0) (leb 1 count && leb count most_operands) (subst (λ (k : ℕ). kind_listed k payload count ≡ true) (eqb-true kind add_kind e) h) in
        leb-true 1 count (and_true (leb 1 count) (leb count most_operands) p.1).0
    go false true e f t =
        let p = and_true (eqb payload 0) (eqb count 2) (subst (λ (k : ℕ). kind_listed k payload count ≡ true) (eqb-true kind sub_kind f) h) in
        omega (arith, eqb-true count 2 p.1)
    go false false e f t = absurd t

all_lower : (i : ℕ) (ids : List ℕ) → ((j : ℕ) → j < length ids → get_or ids j 0 < i) → Lower i ids
all_lower i [] h = tt
all_lower i (k ∷ ks) h = (h 0 (omega arith), all_lower i ks (λ j l. h (suc j) (omega arith)))

plain_sound : (words slots : List ℕ) (arena : DagArena) → StoreSound words slots arena → Sound (nodes_in words arena.count)
plain_sound words slots arena h i l =
    let below : i < arena.count = omega (arith, plain_length words arena.count) in
    record {
      low = all_lower i (at (nodes_in words arena.count) i).children (child_low words arena.count i (lookup_of words slots arena h i below));
      filled = filled _ _ _ (listed_at words slots arena h i below);
      number = number_at words slots arena h i below;
    }

-- Every sheet on every sound store: nodes that are those that the sheet leaves have the answer among them.
pub answer_listed : (m : Memory) (bytes words : List ℕ) (count : ℕ) → model.Sound m → nodes_in words count ≡ (sheet (model.lent m) (model.view m) bytes).left.nodes
    → AnswerListed (outcome_of (sheet (model.lent m) (model.view m) bytes).refusal (sheet (model.lent m) (model.view m) bytes).answers) count
answer_listed m bytes words count h same =
    let r = sheet (model.lent m) (model.view m) bytes in
    subst (λ (n : ℕ). AnswerListed (outcome_of r.refusal r.answers) n) (ap length (sym same) ∙ plain_length words count)
    (sheet_listed (model.lent m) (model.view m) bytes (plain_sound m.words m.slots m.arena h))
