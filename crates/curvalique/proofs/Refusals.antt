-- No refusal has the number 0, which says that a call is answered.
use Prim.Native.Nat.{ℕ, ◌-◌}
use mathlib.Core.Path.{◌≡◌, refl, sym, subst}
use mathlib.Core.Bool.{Bool, true, false, cond}
use mathlib.Core.List.{List}
use mathlib.Core.Logic.{◌⊎◌, ⊎_elim}
use native.Mathlib.Omega.{arith}
use lib.ListN.{length}
use lib.Dec.{leb, ltb, eqb}
use lib.Ieee.{Float, binary64, of_bits}
use Rattle.definitions.specs.Limits.{most_depth, most_terms, infinity_bits}
use Rattle.definitions.specs.Refusals.{bad_operand, bad_code, not_a_number, bad_child_count, bad_threshold, bad_setting, too_many_terms}
use Rattle.definitions.specs.Node.{Node, at, add_kind, nan_constant, child_count_listed}
use Rattle.definitions.specs.Intern.{Lent, Built, built, stopped, intern}
use Rattle.definitions.specs.Walk.{Mode, Walked, finished, spent, halted, walk_root}
use Rattle.definitions.specs.Prune.{chain, keeps, filter, sum_of_kept}
use Rattle.definitions.specs.Threshold.{Threshold, bits, untouched, refusing, given}
use Rattle.definitions.specs.Settings.{setting, threshold, first_pruning_setting, last_setting}
use Rattle.definitions.specs.Machine as M
use Rattle.definitions.specs.Machine.{Call, Answer, stored, simplified, pruned, refused, outcome, Request, State, call, store_call, stored_as, simplify_call, walked_as, prune_chain, prune_at, prune_call, pruned_as, all_below}
use Rattle.definitions.specs.Promise.{Called}
use Rattle.definitions.proofs.Stopping.{NoPlace, StopsForPlace, intern_stops}
use Rattle.store.specs.Memory.{Memory, model}
use Rattle.walk.proofs.Refusing.{refused_full}
use Rattle.sums.proofs.Halving.{sum_stops}
use Rattle.curvalique.specs.Kinds.{CallKind, making, walking, pruning, kind_of}
use Rattle.outputs.specs.Calls.{AnswersNode, AnswersWalk, AnswersPrune}

-- an answer of its kind, or a refusal with a number from 1 on
abbrev pub Numbered : Answer → CallKind → Type 0
Numbered (stored id) making = Unit {0}
Numbered (stored id) walking = ⊥
Numbered (stored id) pruning = ⊥
Numbered (simplified id out steps) making = ⊥
Numbered (simplified id out steps) walking = Unit {0}
Numbered (simplified id out steps) pruning = ⊥
Numbered (pruned id kept dropped) making = ⊥
Numbered (pruned id kept dropped) walking = ⊥
Numbered (pruned id kept dropped) pruning = Unit {0}
Numbered (refused number) k = number ≡ 0 → ⊥

-- the numbers 21 and 22
place_numbered : (number : ℕ) → NoPlace number → number ≡ 0 → ⊥
place_numbered number p z = ⊎_elim (λ h. omega arith) (λ h. omega arith) p

-- ---- store calls

stored_numbered : (b : Built) → StopsForPlace b → Numbered (stored_as b).answer making
stored_numbered (built ns i) s = tt
stored_numbered (stopped ns number) s = place_numbered number s

stores_numbered : (l : Lent) (ns : List Node) (r : Request) → Numbered (store_call l ns r).answer making
unfolding store_call
stores_numbered l ns r = by r.listed (nan_constant r.node.kind r.node.payload) (child_count_listed r.node.kind r.node.payload (length r.node.children)) (all_below (length ns) r.node.children)
  where
    by : (a n b c : Bool) → Numbered (cond a (cond n (outcome (refused not_a_number) ns) (cond b (cond c (stored_as (intern l ns r.node)) (outcome (refused bad_operand) ns)) (outcome (refused bad_child_count) ns))) (outcome (refused bad_code) ns)).answer making
    by true true b c = λ z. omega arith
    by true false true true = stored_numbered (intern l ns r.node) (intern_stops l ns r.node)
    by true false true false = λ z. omega arith
    by true false false c = λ z. omega arith
    by false n b c = λ z. omega arith

-- ---- simplify

-- a walk is numbered if a refusal is 21 or 22
walked_numbered : (root : ℕ) (w : Walked) → ((number : ℕ) → (walked_as root w).answer ≡ refused number → NoPlace number) → Numbered (walked_as root w).answer walking
walked_numbered root (finished ns i k) f = tt
walked_numbered root (spent ns k) f = tt
walked_numbered root (halted ns number) f = place_numbered number (f number refl)

simplifies_numbered : (m : Mode) (l : Lent) (ns : List Node) (i depth budget : ℕ) → Numbered (simplify_call m l ns i depth budget).answer walking
unfolding simplify_call
simplifies_numbered m l ns i depth budget = by (leb depth most_depth) (ltb i (length ns))
  where
    by : (a b : Bool) → Numbered (cond a (cond b (walked_as i (walk_root m l depth budget ns i)) (outcome (refused bad_operand) ns)) (outcome (refused bad_code) ns)).answer walking
    by true true = walked_numbered i (walk_root m l depth budget ns i) (λ number. refused_full l m depth budget ns i number)
    by true false = λ z. omega arith
    by false b = λ z. omega arith

-- ---- prune

abbrev ThresholdNumbered : Threshold → Type 0
ThresholdNumbered (bits t) = Unit {0}
ThresholdNumbered untouched = Unit {0}
ThresholdNumbered (refusing number) = number ≡ 0 → ⊥

sum_numbered : (kept dropped : ℕ) (b : Built) → StopsForPlace b → Numbered (pruned_as kept dropped b).answer pruning
sum_numbered kept dropped (built ns i) s = tt
sum_numbered kept dropped (stopped ns number) s = place_numbered number s

chain_numbered : (l : Lent) (ns : List Node) (t : Float) (ts : List ℕ) → Numbered (prune_chain l ns t ts).answer pruning
unfolding prune_chain
chain_numbered l ns t ts = by (ltb most_terms (length ts)) (filter (keeps ns t) ts)
  where
    by : (a : Bool) (ks : List ℕ) → Numbered (cond a (outcome (refused too_many_terms) ns) (pruned_as (length ks) (length ts - length ks) (sum_of_kept l ns ks))).answer pruning
    by true ks = λ z. omega arith
    by false ks = sum_numbered (length ks) (length ts - length ks) (sum_of_kept l ns ks) (sum_stops l ns ks)

at_numbered : (l : Lent) (ns : List Node) (i : ℕ) (t : Threshold) → ThresholdNumbered t → Numbered (prune_at l ns i t).answer pruning
unfolding prune_at
at_numbered l ns i (bits t) h = by (eqb (at ns i).kind add_kind)
  where
    by : (a : Bool) → Numbered (cond a (prune_chain l ns (of_bits binary64 t) (chain ns i)) (outcome (pruned i 1 0) ns)).answer pruning
    by true = chain_numbered l ns (of_bits binary64 t) (chain ns i)
    by false = tt
at_numbered l ns i untouched h = tt
at_numbered l ns i (refusing number) h = h

prunes_numbered : (l : Lent) (ns : List Node) (i : ℕ) (t : Threshold) → ThresholdNumbered t → Numbered (prune_call l ns i t).answer pruning
unfolding prune_call
prunes_numbered l ns i t h = by (ltb i (length ns))
  where
    by : (a : Bool) → Numbered (cond a (prune_at l ns i t) (outcome (refused bad_operand) ns)).answer pruning
    by true = at_numbered l ns i t h
    by false = λ z. omega arith

given_numbered : (t : ℕ) → ThresholdNumbered (given t)
given_numbered t = by (leb t infinity_bits)
  where
    by : (a : Bool) → ThresholdNumbered (cond a (bits t) (refusing bad_threshold))
    by true = tt
    by false = λ z. omega arith

setting_numbered : (n : ℕ) → ThresholdNumbered (setting n)
unfolding setting
setting_numbered n = by (ltb n first_pruning_setting) (leb n last_setting)
  where
    by : (a b : Bool) → ThresholdNumbered (cond a untouched (cond b (bits (threshold n)) (refusing bad_setting)))
    by true b = tt
    by false true = tt
    by false false = λ z. omega arith

-- ---- any call

pub plain_numbered : (l : Lent) (s : State) (c : Call) → Numbered (call l s c).answer (kind_of c)
unfolding call
plain_numbered l s (M.store c) = stores_numbered l s.nodes (M.requested c)
plain_numbered l s (M.simplify m i depth budget) = simplifies_numbered m l s.nodes i depth budget
plain_numbered l s (M.prune i t) = prunes_numbered l s.nodes i (given t) (given_numbered t)
plain_numbered l s (M.prune_by_setting i n) = prunes_numbered l s.nodes i (setting n) (setting_numbered n)

-- what cannot be otherwise is so
certain : (a : Answer) (k : CallKind) → ((Numbered a k → ⊥) → ⊥) → Numbered a k
certain (stored id) making f = tt
certain (stored id) walking f = absurd (f (λ x. x))
certain (stored id) pruning f = absurd (f (λ x. x))
certain (simplified id out steps) making f = absurd (f (λ x. x))
certain (simplified id out steps) walking f = tt
certain (simplified id out steps) pruning f = absurd (f (λ x. x))
certain (pruned id kept dropped) making f = absurd (f (λ x. x))
certain (pruned id kept dropped) walking f = absurd (f (λ x. x))
certain (pruned id kept dropped) pruning f = tt
certain (refused number) k f = λ z. f (λ n. n z)

-- a call on any memory: where the store is not sound, the number is 20
pub call_numbered : (c : Call) (m : Memory) (a : Answer) (m' : Memory) → Called model c m a m' → Numbered a (kind_of c)
call_numbered c m a m' h =
    certain a (kind_of c)
    (λ n.
    let not_sound : model.Sound m → ⊥ = λ s. n (subst (λ (x : Answer). Numbered x (kind_of c)) (sym (h.answer s)) (plain_numbered (model.lent m) (model.view m) c)) in
    n (subst (λ (x : Answer). Numbered x (kind_of c)) (sym (h.unsound not_sound).0) (λ z. omega arith)))

pub never_0 : (c : Call) (m : Memory) (m' : Memory) → Called model c m (refused 0) m' → ⊥
never_0 c m m' h = call_numbered c m (refused 0) m' h refl

-- ---- the kind of an answer alone

module _ (a : Answer) (m m' : Memory) (c : Call) (h : Called model c m a m') where
  numbered : (k : CallKind) → kind_of c ≡ k → Numbered a k
  numbered k e = subst (Numbered a) e (call_numbered c m a m' h)

  pub answers_node : kind_of c ≡ making → AnswersNode a
  answers_node e = by a (numbered making e)
    where
      by : (x : Answer) → Numbered x making → AnswersNode x
      by (stored id) n = tt
      by (simplified id out steps) n = n
      by (pruned id kept dropped) n = n
      by (refused number) n = tt

  pub answers_walk : kind_of c ≡ walking → AnswersWalk a
  answers_walk e = by a (numbered walking e)
    where
      by : (x : Answer) → Numbered x walking → AnswersWalk x
      by (stored id) n = n
      by (simplified id out steps) n = tt
      by (pruned id kept dropped) n = n
      by (refused number) n = tt

  pub answers_prune : kind_of c ≡ pruning → AnswersPrune a
  answers_prune e = by a (numbered pruning e)
    where
      by : (x : Answer) → Numbered x pruning → AnswersPrune x
      by (stored id) n = n
      by (simplified id out steps) n = n
      by (pruned id kept dropped) n = tt
      by (refused number) n = tt
