-- Demand 3, with nothing assumed: every list of calls that meet their contracts, from a fresh controller, keeps the promise.
use Prim.Native.Nat.{ℕ, zero, suc, ◌<◌, ◌≤◌}
use mathlib.Core.Path.{◌≡◌, refl, sym, ap, ◌∙◌, subst}
use mathlib.Core.Bool.{Bool}
use mathlib.Core.List.{List, [], ◌∷◌, map}
use mathlib.Core.Option.{Option, none, some}
use native.Mathlib.Omega.{arith}
use lib.ListN.{length}
use lib.Dec.{T}
use lib.Ieee.{binary64, of_bits, le}
use Rattle.definitions.specs.Intern.{Lent}
use Rattle.definitions.specs.Node.{Node}
use Rattle.definitions.specs.Walk.{Mode, strict}
use Rattle.definitions.specs.Patterns.{one64}
use Rattle.definitions.specs.Threshold.{Threshold, bits, untouched, given}
use Rattle.definitions.specs.Settings.{setting}
use Rattle.definitions.specs.Machine as M
use Rattle.definitions.specs.Machine.{Store, Call, store, simplify, prune, prune_by_setting, requested, prune_call, state, call}
use Rattle.definitions.specs.Names as N
use Rattle.definitions.specs.Names.{NameCall, intern_name, lookup_name, name_of, name_call}
use Rattle.definitions.specs.Controller.{LentLists, Controller, empty_controller, ControllerCall, building, simplifying, pruning, pruning_by_setting, naming, reading, ControllerAnswer, stored, simplified, pruned, numbered, named, refused, from_names, AfterCall, from_made, on_text, controller_call, controller_answers, controllers, Part, store_part, names_part, takes, untaken, spares, SamePart, from_store}
use Rattle.definitions.specs.Formula.{formula}
use Rattle.definitions.specs.Value.{value_of}
use Rattle.definitions.specs.Exact.{Exact}
use Rattle.definitions.specs.Promise.{ControllerModel, ControllerCalled, FreshController, History, done, next, nth, prunes, spelled, Balanced, requested_formula, Promise, All, ReadTo, AddsUnmarked, Demand3}
use Rattle.definitions.proofs.Intern.{Sound, Inj, Step, stay, trans}
use Rattle.definitions.proofs.Floats.{laws}
use Rattle.definitions.proofs.Calls.{Done, StoreSays, builds}
use Rattle.definitions.proofs.SimplifyCalls.{WalkSays, SimplifySays, simplifies}
use Rattle.definitions.proofs.StrictBits.{SameValue, strict_says, bits_same}
use Rattle.definitions.proofs.StrictMarks.{strict_adds}
use Rattle.definitions.proofs.PruneCalls.{PruneSays, prunes_at, Taken, given_taken, setting_taken, untouched_is}
use Rattle.definitions.proofs.Answers.{from_stored, from_simplified, from_pruned, from_numbered}
use Rattle.definitions.proofs.Going.{call_step, Whole, Goes, whole_after, goes_nowhere, goes_further, by_store, by_names}
use Rattle.definitions.proofs.Readings.{reading_goes, reading_says}
use Rattle.text_language.specs.Grammar.{Expr}
use Rattle.text_language.specs.Reading.{Refuses, Denotes, refuses, verdict}
use Rattle.text_language.proofs.Reading.{judged, verdict_refuses, verdict_denotes}
use Rattle.definitions.specs.Making.{make}
use Rattle.definitions.proofs.ReadingStops.{reading_stops}
use Rattle.definitions.proofs.NameLists.{none_some, Listed, none_listed, NameSays, name_says, tells, lookup_keeps, name_of_keeps}

-- ---- every call goes on from the nodes and names before it

pub call_goes : (l : LentLists) (s : Controller) (c : ControllerCall) → Whole s → Goes s (controller_call l s c).left
unfolding controller_call
call_goes l s (building c) w = by_store l s (store c) w
call_goes l s (simplifying m i d b) w = by_store l s (simplify m i d b) w
call_goes l s (pruning i t) w = by_store l s (prune i t) w
call_goes l s (pruning_by_setting i n) w = by_store l s (prune_by_setting i n) w
call_goes l s (naming c) w = by_names l s c w
call_goes l s (reading text) w = reading_goes l s (verdict text) w

-- and leaves the parts alone that it spares
call_spares : (l : LentLists) (s : Controller) (c : ControllerCall) → All (SamePart s (controller_call l s c).left) (spares c)
unfolding controller_call
call_spares l s (building c) = (refl, tt)
call_spares l s (simplifying m i d b) = (refl, tt)
call_spares l s (pruning i t) = (refl, tt)
call_spares l s (pruning_by_setting i n) = (refl, tt)
call_spares l s (naming (intern_name name)) = (refl, tt)
call_spares l s (naming (lookup_name name)) = (refl, (lookup_keeps l.names s.names name, tt))
call_spares l s (naming (name_of number)) = (refl, (name_of_keeps l.names s.names number, tt))
call_spares l s (reading text) = tt

-- and those that it is not lent
pub call_untouched : (l : LentLists) (s : Controller) (c : ControllerCall) → All (SamePart s (controller_call l s c).left) (untaken c)
unfolding controller_call
call_untouched l s (building c) = (refl, tt)
call_untouched l s (simplifying m i d b) = (refl, tt)
call_untouched l s (pruning i t) = (refl, tt)
call_untouched l s (pruning_by_setting i n) = (refl, tt)
call_untouched l s (naming c) = (refl, tt)
call_untouched l s (reading text) = tt

fresh_whole : Whole empty_controller
fresh_whole = record { nodes = λ i h. absurd (omega arith); names = none_listed }

fresh_unique : Inj []
fresh_unique i j h = absurd (omega arith)

-- a prune leaves the names alone
abbrev after_prune : Controller → M.Outcome → AfterCall
after_prune s o = record { answer = from_store o.answer; left = record { nodes = o.nodes; names = s.names } }

module _ (l : LentLists) where
  -- something stands before each call, and after it
  some_before : (s : Controller) (cs : List ControllerCall) (i : ℕ) (c : ControllerCall) → nth cs i ≡ some c → (x : Controller) × (nth (s ∷ controllers l s cs) i ≡ some x)
  unfolding controllers
  some_before s [] i c e = none_some c _ e
  some_before s (d ∷ cs) zero c e = (s, refl)
  some_before s (d ∷ cs) (suc i) c e = some_before (controller_call l s d).left cs i c e

  -- what stands at a position goes on from the first
  reaches : (s : Controller) (cs : List ControllerCall) (i : ℕ) (s' : Controller) → Whole s → nth (s ∷ controllers l s cs) i ≡ some s' → Goes s s'
  unfolding controllers
  reaches s cs zero s' w e = let q : s ≡ s' = cc in subst (Goes s) q (goes_nowhere s w)
  reaches s [] (suc i) s' w e = none_some s' _ e
  reaches s (c ∷ cs) (suc i) s' w e = let g = call_goes l s c w in goes_further g (reaches (controller_call l s c).left cs i s' (whole_after g) e)

  -- and so does what stands later from what stands earlier
  goes_on : (s : Controller) (cs : List ControllerCall) (i j : ℕ) (s' s'' : Controller) → Whole s → i ≤ j
      → nth (s ∷ controllers l s cs) i ≡ some s' → nth (s ∷ controllers l s cs) j ≡ some s'' → Goes s' s''
  unfolding controllers
  goes_on s cs zero j s' s'' w k e f = let q : s ≡ s' = cc in subst (λ x. Goes x s'') q (reaches s cs j s'' w f)
  goes_on s cs (suc i) zero s' s'' w k e f = absurd (omega arith)
  goes_on s [] (suc i) (suc j) s' s'' w k e f = none_some s' _ e
  goes_on s (c ∷ cs) (suc i) (suc j) s' s'' w k e f = goes_on (controller_call l s c).left cs i j s' s'' (whole_after (call_goes l s c w)) (omega arith) e f

  -- a call's answer and what it leaves, by what stands before it
  answer_at : (s : Controller) (cs : List ControllerCall) (i : ℕ) (c : ControllerCall) (s0 : Controller)
      → nth cs i ≡ some c → nth (s ∷ controllers l s cs) i ≡ some s0 → nth (controller_answers l s cs) i ≡ some (controller_call l s0 c).answer
  unfolding controller_answers controllers
  answer_at s [] i c s0 ec e0 = none_some c _ ec
  answer_at s (d ∷ cs) zero c s0 ec e0 =
      let ed : d ≡ c = cc in
      let q : s ≡ s0 = cc in
      λ i. some (controller_call l (q i) (ed i)).answer
  answer_at s (d ∷ cs) (suc i) c s0 ec e0 = answer_at (controller_call l s d).left cs i c s0 ec e0

  left_at : (s : Controller) (cs : List ControllerCall) (i : ℕ) (c : ControllerCall) (s0 : Controller)
      → nth cs i ≡ some c → nth (s ∷ controllers l s cs) i ≡ some s0 → nth (controllers l s cs) i ≡ some (controller_call l s0 c).left
  unfolding controllers
  left_at s [] i c s0 ec e0 = none_some c _ ec
  left_at s (d ∷ cs) zero c s0 ec e0 =
      let ed : d ≡ c = cc in
      let q : s ≡ s0 = cc in
      λ i. some (controller_call l (q i) (ed i)).left
  left_at s (d ∷ cs) (suc i) c s0 ec e0 = left_at (controller_call l s d).left cs i c s0 ec e0

  at_call : (s : Controller) (cs : List ControllerCall) (i : ℕ) (c : ControllerCall) (a : ControllerAnswer) (s0 s' : Controller)
      → nth cs i ≡ some c → nth (controller_answers l s cs) i ≡ some a → nth (s ∷ controllers l s cs) i ≡ some s0 → nth (controllers l s cs) i ≡ some s'
      → ((controller_call l s0 c).answer ≡ a) × ((controller_call l s0 c).left ≡ s')
  at_call s cs i c a s0 s' ec ea e0 es =
      let f = answer_at s cs i c s0 ec e0 in
      let g = left_at s cs i c s0 ec e0 in
      (cc, cc)

  -- what the calls of each sort say
  store_says : (s s' : Controller) (c : Store) (id : ℕ) → Whole s → (controller_call l s (building c)).answer ≡ stored id → (controller_call l s (building c)).left ≡ s'
      → (id < length s'.nodes) × (formula s'.nodes id ≡ requested_formula s.nodes c)
  unfolding controller_call call
  store_says s s' c id w ea es =
      let e = from_stored (call l.store (state s.nodes) (store c)).answer id ea in
      subst (λ (x : Controller). (id < length x.nodes) × (formula x.nodes id ≡ requested_formula s.nodes c)) es
      (subst (StoreSays s.nodes (requested c).node (call l.store (state s.nodes) (store c)).left.nodes) e (builds l.store s.nodes (requested c) w.nodes).says)

  simplify_says : (m : Mode) (s s' : Controller) (root depth budget id steps : ℕ) (spent : Bool) → Whole s
      → (controller_call l s (simplifying m root depth budget)).answer ≡ simplified id spent steps → (controller_call l s (simplifying m root depth budget)).left ≡ s'
      → SimplifySays s.nodes root s'.nodes (M.simplified id spent steps)
  unfolding controller_call call
  simplify_says m s s' root depth budget id steps spent w ea es =
      let c = simplify m root depth budget in
      let e = from_simplified (call l.store (state s.nodes) c).answer id spent steps ea in
      subst (λ (x : Controller). SimplifySays s.nodes root x.nodes (M.simplified id spent steps)) es
      (subst (SimplifySays s.nodes root (call l.store (state s.nodes) c).left.nodes) e (simplifies laws l.store m s.nodes root depth budget w.nodes).says)

  -- a strict one
  bits_say : (s s' : Controller) (root depth budget id steps : ℕ) (spent : Bool) → Whole s
      → (controller_call l s (simplifying strict root depth budget)).answer ≡ simplified id spent steps → (controller_call l s (simplifying strict root depth budget)).left ≡ s'
      → WalkSays SameValue s.nodes root s'.nodes (M.simplified id spent steps)
  unfolding controller_call call
  bits_say s s' root depth budget id steps spent w ea es =
      let c = simplify strict root depth budget in
      let e = from_simplified (call l.store (state s.nodes) c).answer id spent steps ea in
      subst (λ (x : Controller). WalkSays SameValue s.nodes root x.nodes (M.simplified id spent steps)) es
      (subst (WalkSays SameValue s.nodes root (call l.store (state s.nodes) c).left.nodes) e (strict_says l.store s.nodes root depth budget w.nodes).says)

  marks_say : (s s' : Controller) (root depth budget : ℕ) → (controller_call l s (simplifying strict root depth budget)).left ≡ s' → AddsUnmarked s.nodes s'.nodes
  unfolding controller_call call
  marks_say s s' root depth budget es = subst (λ (x : Controller). AddsUnmarked s.nodes x.nodes) es (strict_adds l.store s.nodes root depth budget)

  -- a prune is that of its id at its threshold, whatever this was made from
  prune_is : (s : Controller) (p : ControllerCall) (id : ℕ) (t : Threshold) → prunes p ≡ some (id, t)
      → Taken t × (controller_call l s p ≡ after_prune s (prune_call l.store s.nodes id t))
  unfolding controller_call call
  prune_is s (building c) id t e = none_some (id, t) _ e
  prune_is s (simplifying m i depth budget) id t e = none_some (id, t) _ e
  prune_is s (pruning i u) id t e =
      let q : ◌≡◌ {A = ℕ × Threshold} (i, given u) (id, t) = cc in
      subst (λ (x : ℕ × Threshold). Taken x.1 × (controller_call l s (pruning i u) ≡ after_prune s (prune_call l.store s.nodes x.0 x.1))) q (given_taken u, refl)
  prune_is s (pruning_by_setting i n) id t e =
      let q : ◌≡◌ {A = ℕ × Threshold} (i, setting n) (id, t) = cc in
      subst (λ (x : ℕ × Threshold). Taken x.1 × (controller_call l s (pruning_by_setting i n) ≡ after_prune s (prune_call l.store s.nodes x.0 x.1))) q (setting_taken n, refl)
  prune_is s (naming c) id t e = none_some (id, t) _ e
  prune_is s (reading text) id t e = none_some (id, t) _ e

  prune_says : (s s' : Controller) (p : ControllerCall) (id t answer k d : ℕ) → Whole s → prunes p ≡ some (id, bits t)
      → (controller_call l s p).answer ≡ pruned answer k d → (controller_call l s p).left ≡ s' → PruneSays s.nodes id t s'.nodes (M.pruned answer k d)
  prune_says s s' p id t answer k d w ep ea es =
      let q = prune_is s p id (bits t) ep in
      let o = prune_call l.store s.nodes id (bits t) in
      let f = from_pruned o.answer answer k d (ap (λ (x : AfterCall). x.answer) (sym q.1) ∙ ea) in
      subst (λ (x : Controller). PruneSays s.nodes id t x.nodes (M.pruned answer k d)) (ap (λ (x : AfterCall). x.left) (sym q.1) ∙ es)
      (subst (PruneSays s.nodes id t o.nodes) f (prunes_at l.store s.nodes id t q.0 w.nodes).says)

  untouched_says : (s : Controller) (p : ControllerCall) (id : ℕ) → prunes p ≡ some (id, untouched) → id < length s.nodes
      → controller_call l s p ≡ record { answer = pruned id 1 0; left = s }
  untouched_says s p id ep h = (prune_is s p id untouched ep).1 ∙ ap (after_prune s) (untouched_is l.store s.nodes id h)

  names_say : (s : Controller) (c : NameCall) → Whole s → NameSays s.names c (name_call l.names s.names c)
  names_say s c w = name_says l.names s.names w.names c

  number_says : (s s' : Controller) (c : NameCall) (number : ℕ) (name : List ℕ) → Whole s → spelled c ≡ some name
      → (controller_call l s (naming c)).answer ≡ numbered number → (controller_call l s (naming c)).left ≡ s' → nth s'.names number ≡ some name
  unfolding controller_call
  number_says s s' c number name w e ea es =
      let f = from_numbered (name_call l.names s.names c).answer number ea in
      subst (λ (x : Controller). nth x.names number ≡ some name) es ((names_say s c w).numbers number name e f)

  known_says : (s : Controller) (c : NameCall) (number : ℕ) (name : List ℕ) → Whole s → spelled c ≡ some name → nth s.names number ≡ some name
      → (controller_call l s (naming c)).answer ≡ numbered number
  unfolding controller_call
  known_says s c number name w e h = ap from_names ((names_say s c w).known number name e h)

  told_says : (s : Controller) (number : ℕ) (name : List ℕ) → nth s.names number ≡ some name → (controller_call l s (naming (name_of number))).answer ≡ named name
  unfolding controller_call
  told_says s number name h = ap from_names (tells l.names s.names number name h)

  -- and a reading
  text_says : (s s' : Controller) (text : List ℕ) (id : ℕ) → Whole s → (controller_call l s (reading text)).answer ≡ stored id → (controller_call l s (reading text)).left ≡ s' → ReadTo text s' id
  unfolding controller_call
  text_says s s' text id w ea es = reading_says l s s' text id (verdict text) w (judged text) ea es

  text_refused : (s : Controller) (text : List ℕ) (number : ℕ) → Refuses text number → controller_call l s (reading text) ≡ on_text l s (refuses number)
  unfolding controller_call
  text_refused s text number h = ap (on_text l s) (verdict_refuses h)

  text_made : (s : Controller) (text : List ℕ) (e : Expr) → Denotes text e → controller_call l s (reading text) ≡ from_made (make l e s)
  unfolding controller_call
  text_made s text e h = ap (on_text l s) (verdict_denotes h)

-- ---- the promise over the plain machine
pub plain_promise : (l : LentLists) (cs : List ControllerCall) → Promise l cs (controller_answers l empty_controller cs) (controllers l empty_controller cs)
plain_promise l cs = record {
  plain_answers = refl;
  plain_states = refl;
  builds = λ i id c s s' ec ea e0 es.
      let q = at_call l empty_controller cs i (building c) (stored id) s s' ec ea e0 es in
      store_says l s s' c id (whole i s e0) q.0 q.1;
  stays = λ i j id s s' h ei ej k. let st = (goes_on l empty_controller cs i j s s' fresh_whole h ei ej).step in (st.longer, st.kept id k);
  unique = λ i id id' s e h h' k. (reaches l empty_controller cs (suc i) s fresh_whole e).step.one fresh_unique id id' h h' k;
  numbers = λ i id s e h. ((reaches l empty_controller cs (suc i) s fresh_whole e).step.sound id h).number;
  balance = λ m i j root depth budget id steps t answer k d spent p s0 s1 s3 lt ec ea ep eq ea' e0 e1 e3 tu ex.
      let q = at_call l empty_controller cs i (simplifying m root depth budget) (simplified id spent steps) s0 s1 ec ea e0 e1 in
      let simple = simplify_says l m s0 s1 root depth budget id steps spent (whole i s0 e0) q.0 q.1 in
      balanced i j root depth budget id steps t answer k d spent p s0 s1 s3 lt ep eq ea' e1 e3 tu ex simple;
  untouched_answers = λ j id p s s' ec ep e0 es h. untouched_leaves j id p s s' ec ep e0 es h;
  untouched_balance = λ m i j root depth budget id steps spent p s0 s1 s3 lt ec ea ej ep e0 e1 e3 ex.
      let q = at_call l empty_controller cs i (simplifying m root depth budget) (simplified id spent steps) s0 s1 ec ea e0 e1 in
      let simple = simplify_says l m s0 s1 root depth budget id steps spent (whole i s0 e0) q.0 q.1 in
      let (s2, e2) = some_before l empty_controller cs j p ej in
      let st = goes_on l empty_controller cs (suc i) j s1 s2 fresh_whole lt e1 e2 in
      let low : id < length s2.nodes = omega (arith, simple.1, st.step.longer) in
      let u = untouched_leaves j id p s2 s3 ej ep e2 e3 low in
      let same : formula s3.nodes id ≡ formula s1.nodes id = ap (λ (x : Controller). formula x.nodes id) u.1 ∙ st.step.kept id simple.1 in
      (simple.0, simple.1, subst (λ (x : Controller). id < length x.nodes) (sym u.1) low, u.0, λ r. sym ((simple.2 ex).equal r) ∙ ap (value_of r) (sym same));
  same_bits = λ i root depth budget id steps spent s0 s1 ec ea e0 e1.
      let q = at_call l empty_controller cs i (simplifying strict root depth budget) (simplified id spent steps) s0 s1 ec ea e0 e1 in
      let says = bits_say l s0 s1 root depth budget id steps spent (whole i s0 e0) q.0 q.1 in
      (says.0, says.1, bits_same (formula s1.nodes id) (formula s0.nodes root) says.2);
  no_marks = λ i root depth budget s0 s1 ec e0 e1.
      let g = left_at l empty_controller cs i (simplifying strict root depth budget) s0 ec e0 in
      let q : (controller_call l s0 (simplifying strict root depth budget)).left ≡ s1 = cc in
      marks_say l s0 s1 root depth budget q;
  names_numbered = λ i number name c s' ec e ea es.
      let (s, e0) = some_before l empty_controller cs i (naming c) ec in
      let q = at_call l empty_controller cs i (naming c) (numbered number) s s' ec ea e0 es in
      number_says l s s' c number name (whole i s e0) e q.0 q.1;
  names_stay = λ i j number name s s' h ei ej k. (goes_on l empty_controller cs i j s s' fresh_whole h ei ej).kept number name k;
  names_known = λ i number name c s ec e e0 k.
      answer_at l empty_controller cs i (naming c) s ec e0 ∙ ap some (known_says l s c number name (whole i s e0) e k);
  names_told = λ i number name s ec e0 k. answer_at l empty_controller cs i (naming (name_of number)) s ec e0 ∙ ap some (told_says l s number name k);
  names_unique = λ i number number' name s e h h'. (reaches l empty_controller cs (suc i) s fresh_whole e).listed.once number number' name h h';
  reads = λ i id text s' ec ea es.
      let (s, e0) = some_before l empty_controller cs i (reading text) ec in
      let q = at_call l empty_controller cs i (reading text) (stored id) s s' ec ea e0 es in
      text_says l s s' text id (whole i s e0) q.0 q.1;
  reads_refused = λ i number text s s' ec h e0 es.
      let r = text_refused l s text number h in
      let f = left_at l empty_controller cs i (reading text) s ec e0 in
      let q : (controller_call l s (reading text)).left ≡ s' = cc in
      (answer_at l empty_controller cs i (reading text) s ec e0 ∙ ap (λ (x : AfterCall). some x.answer) r, sym q ∙ ap (λ (x : AfterCall). x.left) r);
  reads_made = λ i text e a s s' ec h ea e0 es.
      let q = at_call l empty_controller cs i (reading text) a s s' ec ea e0 es in
      let r = text_made l s text e h in
      (sym q.0 ∙ ap (λ (x : AfterCall). x.answer) r, sym q.1 ∙ ap (λ (x : AfterCall). x.left) r);
  reads_stopped = λ i number text e ec h ea.
      let (s, e0) = some_before l empty_controller cs i (reading text) ec in
      let f = answer_at l empty_controller cs i (reading text) s ec e0 in
      let q : (controller_call l s (reading text)).answer ≡ refused number = cc in
      reading_stops l text e s number h (sym (ap (λ (x : AfterCall). x.answer) (text_made l s text e h)) ∙ q);
  others_stay = λ i c s s' ec e0 es.
      let g = left_at l empty_controller cs i c s ec e0 in
      let q : (controller_call l s c).left ≡ s' = cc in
      subst (λ x. All (SamePart s x) (spares c)) q (call_spares l s c);
}
  where
    whole : (i : ℕ) (s : Controller) → nth (empty_controller ∷ controllers l empty_controller cs) i ≡ some s → Whole s
    whole i s e = whole_after (reaches l empty_controller cs i s fresh_whole e)

    untouched_leaves : (j id : ℕ) (p : ControllerCall) (s s' : Controller) → nth cs j ≡ some p → prunes p ≡ some (id, untouched)
        → nth (empty_controller ∷ controllers l empty_controller cs) j ≡ some s → nth (controllers l empty_controller cs) j ≡ some s' → id < length s.nodes
        → (nth (controller_answers l empty_controller cs) j ≡ some (pruned id 1 0)) × (s' ≡ s)
    untouched_leaves j id p s s' ec ep e0 es h =
        let u = untouched_says l s p id ep h in
        let g = left_at l empty_controller cs j p s ec e0 in
        let q : (controller_call l s p).left ≡ s' = cc in
        (answer_at l empty_controller cs j p s ec e0 ∙ ap (λ (x : AfterCall). some x.answer) u, sym q ∙ ap (λ (x : AfterCall). x.left) u)

    balanced : (i j root depth budget id steps t answer k d : ℕ) (spent : Bool) (p : ControllerCall) (s0 s1 s3 : Controller) → i < j
        → nth cs j ≡ some p → prunes p ≡ some (id, bits t) → nth (controller_answers l empty_controller cs) j ≡ some (pruned answer k d)
        → nth (controllers l empty_controller cs) i ≡ some s1 → nth (controllers l empty_controller cs) j ≡ some s3
        → T (le (of_bits binary64 t) one64) → Exact (formula s0.nodes root) → SimplifySays s0.nodes root s1.nodes (M.simplified id spent steps)
        → (root < length s0.nodes) × (id < length s1.nodes) × (answer < length s3.nodes) × Exact (formula s1.nodes id)
        × Balanced (formula s0.nodes root) (formula s1.nodes id) (formula s3.nodes answer) (of_bits binary64 t) k d
    balanced i j root depth budget id steps t answer k d spent p s0 s1 s3 lt ep eq ea' e1 e3 tu ex simple =
        let g = simple.2 ex in
        let (s2, e2) = some_before l empty_controller cs j p ep in
        let q = at_call l empty_controller cs j p (pruned answer k d) s2 s3 ep ea' e2 e3 in
        let st = goes_on l empty_controller cs (suc i) j s1 s2 fresh_whole lt e1 e2 in
        let says = prune_says l s2 s3 p id t answer k d (whole_after st) eq q.0 q.1 in
        let same : formula s2.nodes id ≡ formula s1.nodes id = st.step.kept id simple.1 in
        let b = says.2 tu (subst Exact (sym same) g.exact) in
        let b' = subst (λ u. Balanced u u (formula s3.nodes answer) (of_bits binary64 t) k d) same b in
        (simple.0, simple.1, says.1, g.exact, record { value = λ r. sym (g.equal r) ∙ b'.value r; counts = b'.counts; shape = b'.shape })

-- ---- a chain of calls that meet their contracts is the plain machine's run

pub all_of : {A : Type 0} (P : A → Type 0) → ((x : A) → P x) → (xs : List A) → All P xs
all_of P f [] = tt
all_of P f (x ∷ xs) = (f x, all_of P f xs)

module _ (K : ControllerModel) where
  as_plain : {m : K.Memory} {cs : List ControllerCall} {al : List ControllerAnswer} {ms : List K.Memory} → ((p : Part) → K.Sound m p) → History K m cs al ms
      → (al ≡ controller_answers (K.lent m) (K.view m) cs) × (map K.view ms ≡ controllers (K.lent m) (K.view m) cs) × All (λ m'. (p : Part) → K.Sound m' p) ms
  unfolding controller_answers controllers
  as_plain h done = (refl, refl, tt)
  as_plain {m = m} h (next {m' = m'} {c = c} {cs = cs} k t) =
      let taken = all_of (K.Sound m) h (takes c) in
      let sound : (p : Part) → K.Sound m' p = λ p. k.sound taken p (h p) in
      let e : K.view m' ≡ (controller_call (K.lent m) (K.view m) c).left = k.left taken in
      let f = k.answer taken in
      let g = k.same_lent in
      let p = as_plain sound t in
      let x : controller_answers (K.lent m') (K.view m') cs ≡ controller_answers (K.lent m) (controller_call (K.lent m) (K.view m) c).left cs = λ i. controller_answers (g i) (e i) cs in
      let y : controllers (K.lent m') (K.view m') cs ≡ controllers (K.lent m) (controller_call (K.lent m) (K.view m) c).left cs = λ i. controllers (g i) (e i) cs in
      let u = p.0 in
      let w = p.1 in
      (cc, cc, (sound, p.2))

pub demand3 : Demand3
demand3 M m cs al ms f h =
    let q = as_plain M f.sound h in
    let l = M.lent m in
    let ea : al ≡ controller_answers l empty_controller cs = q.0 ∙ ap (λ s. controller_answers l s cs) f.view in
    let es : map M.view ms ≡ controllers l empty_controller cs = q.1 ∙ ap (λ s. controllers l s cs) f.view in
    (subst (λ x. Promise l cs x (map M.view ms)) (sym ea) (subst (λ x. Promise l cs (controller_answers l empty_controller cs) x) (sym es) (plain_promise l cs)), q.2)
