-- Demand 3: what is promised of every list of store, simplify (strict ones too), prune and name calls and readings.
use Rattle.std.specs.Prelude.{ℕ, zero, suc, ◌<◌, ◌≤◌, ◌≡◌, Bool, true, false, cond, List, [], ◌∷◌, ◌++◌, map, length, T, Float}
use Rattle.std.proofs.Math.Option.{Option, none, some}
use Rattle.std.specs.Float.{binary64}
use Rattle.std.specs.Float.Ieee.{of_bits, le}
use Rattle.definitions.specs.Refusals.{not_sound, no_name_place, no_node_place, no_slot_place}
use Rattle.definitions.specs.Intern.{Lent}
use Rattle.definitions.specs.Patterns.{one64}
use Rattle.definitions.specs.Walk.{Mode, strict}
use Rattle.definitions.specs.Threshold.{Threshold, bits, untouched, given}
use Rattle.definitions.specs.Settings.{setting}
use Rattle.definitions.specs.Node.{Node, at, nan_constant, variable_kind, constant_kind, add_kind, sub_kind, mul_kind, div_kind, pow_kind, neg_kind, both_flags}
use Rattle.definitions.specs.Machine.{Store, Call, Answer, requested, State, empty, call}
use Rattle.definitions.specs.Machine as Machine
use Rattle.definitions.specs.Names.{NameCall, intern_name, lookup_name, name_of}
use Rattle.definitions.specs.Controller.{LentLists, Controller, empty_controller, ControllerCall, building, simplifying, pruning, pruning_by_setting, naming, reading, ControllerAnswer, stored, simplified, pruned, numbered, named, refused, from_made, controller_call, controller_answers, controllers, Part, takes, untaken, spares, SamePart}
use Rattle.definitions.specs.Formula.{Tree, tree, nil, cons, forest, formula}
use Rattle.definitions.specs.Dyadic.{plus}
use Rattle.definitions.specs.Value.{Reading, sum_of, value_of}
use Rattle.definitions.specs.Exact.{Exact}
use Rattle.definitions.specs.Evaluation.{Evaluation, bits_of}
use Rattle.text_language.specs.Grammar.{sums, products, Expr, constant, variable, negated, linked, raised, Text}
use Rattle.text_language.specs.Reading.{Refuses, Denotes}
use Rattle.definitions.specs.Making.{make}
use Rattle.definitions.specs.Chain.{is_add, dropped, kept, Remains}

-- ---- what one store call's contract says

-- A store as code has it: what its memory is, when it is sound, the plain machine's state in it, and how much is lent.
pub record Model : Type 1 where
  pub Memory : Type 0
  pub Sound : Memory → Type 0
  pub view : Memory → State
  pub lent : Memory → Lent

-- What the contract of each store, simplify and prune call says of the memory before it, its answer and the memory after it: 20 and nothing
-- changed where the store is not sound, and where it is, the plain machine's answer and nodes, and a sound store again.
pub record Called (M : Model) (c : Call) (m : M.Memory) (a : Answer) (m' : M.Memory) : Type 0 where
  pub unsound : (M.Sound m → ⊥) → (a ≡ Machine.refused not_sound) × (m' ≡ m)
  pub answer : M.Sound m → a ≡ (call (M.lent m) (M.view m) c).answer
  pub left : M.Sound m → M.view m' ≡ (call (M.lent m) (M.view m) c).left
  pub sound : M.Sound m → M.Sound m'
  pub same_lent : M.lent m' ≡ M.lent m

-- a fresh store: sound, and without nodes
pub record Fresh (M : Model) (m : M.Memory) : Type 0 where
  pub sound : M.Sound m
  pub view : M.view m ≡ empty

-- ---- what one call's contract says of a controller

abbrev pub All : {A : Type 0} → (A → Type 0) → List A → Type 0
All P [] = Unit {0}
All P (x ∷ xs) = P x × All P xs

-- A controller as code has it: what its memory is, when each part of it is sound, when a part is the same in two memories, word for word
-- and byte for byte, what the plain machine has in it, and how much is lent.
pub record ControllerModel : Type 1 where
  pub Memory : Type 0
  pub Sound : Memory → Part → Type 0
  pub Same : Memory → Memory → Part → Type 0
  pub view : Memory → Controller
  pub lent : Memory → LentLists

-- Of a call, the memory before it, its answer and the memory after it: 20 and nothing changed where a part that the call takes is not
-- sound, and where they are, the plain machine's answer and what it leaves, and every part sound that was.
pub record ControllerCalled (M : ControllerModel) (c : ControllerCall) (m : M.Memory) (a : ControllerAnswer) (m' : M.Memory) : Type 0 where
  pub unsound : (All (M.Sound m) (takes c) → ⊥) → (a ≡ refused not_sound) × (m' ≡ m)
  pub answer : All (M.Sound m) (takes c) → a ≡ (controller_call (M.lent m) (M.view m) c).answer
  pub left : All (M.Sound m) (takes c) → M.view m' ≡ (controller_call (M.lent m) (M.view m) c).left
  pub sound : All (M.Sound m) (takes c) → (p : Part) → M.Sound m p → M.Sound m' p
  -- sound or not, the parts that the call is not lent are as they were
  pub untouched : All (M.Same m m') (untaken c)
  pub same_lent : M.lent m' ≡ M.lent m

-- "the first gets a fresh store", with the lists "empty at first": every part is sound, and nothing stands in it
pub record FreshController (M : ControllerModel) (m : M.Memory) : Type 0 where
  pub sound : (p : Part) → M.Sound m p
  pub view : M.view m ≡ empty_controller

-- "each other one the store as the call before left it, and nobody else writes it meanwhile", "name and rule lists handed on like the
-- store": calls, answers, and the memory after each
pub data History (M : ControllerModel) : M.Memory → List ControllerCall → List ControllerAnswer → List M.Memory → Type 0 where
  done : {m : M.Memory} → History M m [] [] []
  next : {m m' : M.Memory} {c : ControllerCall} {cs : List ControllerCall} {a : ControllerAnswer} {al : List ControllerAnswer} {ms : List M.Memory}
      → ControllerCalled M c m a m' → History M m' cs al ms → History M m (c ∷ cs) (a ∷ al) (m' ∷ ms)

-- ---- what is promised

abbrev pub nth : {A : Type 0} → List A → ℕ → Option A
nth [] i = none
nth (x ∷ xs) zero = some x
nth (x ∷ xs) (suc i) = nth xs i

-- the id and the threshold of a prune
abbrev pub prunes : ControllerCall → Option (ℕ × Threshold)
prunes (building c) = none
prunes (simplifying m i depth budget) = none
prunes (pruning i t) = some (i, given t)
prunes (pruning_by_setting i n) = some (i, setting n)
prunes (naming c) = none
prunes (reading text) = none

-- `ms` has the nodes `ns` as they are, then unmarked ones
pub record AddsUnmarked (ns ms : List Node) : Type 0 where
  pub new : List Node
  pub is : ms ≡ ns ++ new
  pub unmarked : All (λ (n : Node). n.canonical ≡ false) new

-- the name that is interned or looked up
abbrev pub spelled : NameCall → Option (List ℕ)
spelled (intern_name name) = some name
spelled (lookup_name name) = some name
spelled (name_of number) = none

-- `old` was simplified to `s`, which was pruned at t to u, with the two counts
pub record Balanced (old s u : Tree) (t : Float) (kept_count dropped_count : ℕ) : Type 0 where
  -- "for all values of variables and functions the old formula's value equals the pruned one's plus the sum of the dropped terms"
  pub value : (r : Reading) → value_of r old ≡ plus (value_of r u) (sum_of (map (value_of r) (dropped t s)))
  -- "The two reported counts are the numbers of kept and of dropped terms; without a chain they are 1 and 0."
  pub counts : cond (is_add s) ((kept_count ≡ length (kept t s)) × (dropped_count ≡ length (dropped t s))) ((kept_count ≡ 1) × (dropped_count ≡ 0))
  -- the kept terms in order; a root without a chain is answered itself
  pub shape : cond (is_add s) (Remains (kept t s) u) (u ≡ s)

-- "the kind, payload and flags" of a store call "over its operands' formulas"
abbrev pub requested_formula : List Node → Store → Tree
requested_formula ns c =
    let n = (requested c).node in
    tree n.kind n.payload n.flags (forest (formula ns) n.children)

-- the formula of an expression under names: a constant by its bits, a name by its number, a sign by its kind with "the constructors' flags"
pub data Spells (names : List (List ℕ)) : Expr → Tree → Type 0 where
  number : {b : ℕ} → Spells names (constant b) (tree constant_kind b 0 nil)
  name : {w : List ℕ} {n : ℕ} → nth names n ≡ some w → Spells names (variable w) (tree variable_kind n 0 nil)
  minus : {a : Expr} {t : Tree} → Spells names a t → Spells names (negated a) (tree neg_kind 0 0 (cons t nil))
  sum : {a b : Expr} {t u : Tree} → Spells names a t → Spells names b u
      → Spells names (linked sums false a b) (tree add_kind 0 both_flags (cons t (cons u nil)))
  difference : {a b : Expr} {t u : Tree} → Spells names a t → Spells names b u
      → Spells names (linked sums true a b) (tree sub_kind 0 0 (cons t (cons u nil)))
  product : {a b : Expr} {t u : Tree} → Spells names a t → Spells names b u
      → Spells names (linked products false a b) (tree mul_kind 0 both_flags (cons t (cons u nil)))
  quotient : {a b : Expr} {t u : Tree} → Spells names a t → Spells names b u
      → Spells names (linked products true a b) (tree div_kind 0 0 (cons t (cons u nil)))
  power : {a b : Expr} {t u : Tree} → Spells names a t → Spells names b u
      → Spells names (raised a b) (tree pow_kind 0 0 (cons t (cons u nil)))

-- a text was read to an id: "each text has one reading", and the id's formula is that of the one expression
pub record ReadTo (text : List ℕ) (s : Controller) (id : ℕ) : Type 0 where
  pub expr : Expr
  pub denotes : Denotes text expr
  pub one : (e : Expr) (d : ℕ) → Text text e d → e ≡ expr
  pub known : id < length s.nodes
  pub spells : Spells s.names expr (formula s.nodes id)

-- "Stopped by 24, 21 or 22"
pub data StopsReading : ℕ → Type 0 where
  no_name : StopsReading no_name_place
  no_node : StopsReading no_node_place
  no_slots : StopsReading no_slot_place

-- Of a list of calls from the empty controller: `al` are the answers, and `ss` what stands after each call. Position i of `empty_controller
-- ∷ ss` is what stands before call i, position i of `ss` what stands after it.
pub record Promise (l : LentLists) (cs : List ControllerCall) (al : List ControllerAnswer) (ss : List Controller) : Type 0 where
  -- each call's answer or refusal, and the nodes after it, equal those of the plain machine, fed with the same calls alone
  pub plain_answers : al ≡ controller_answers l empty_controller cs
  pub plain_states : ss ≡ controllers l empty_controller cs
  -- "A store call's answer has the formula that the call was given"
  pub builds : (i id : ℕ) (c : Store) (s s' : Controller)
      → nth cs i ≡ some (building c) → nth al i ≡ some (stored id) → nth (empty_controller ∷ ss) i ≡ some s → nth ss i ≡ some s'
      → (id < length s'.nodes) × (formula s'.nodes id ≡ requested_formula s.nodes c)
  -- "No later call changes the formula of an id."
  pub stays : (i j id : ℕ) (s s' : Controller) → i ≤ j → nth (empty_controller ∷ ss) i ≡ some s → nth (empty_controller ∷ ss) j ≡ some s' → id < length s.nodes
      → (length s.nodes ≤ length s'.nodes) × (formula s'.nodes id ≡ formula s.nodes id)
  -- no two ids have one formula
  pub unique : (i id id' : ℕ) (s : Controller) → nth ss i ≡ some s → id < length s.nodes → id' < length s.nodes
      → formula s.nodes id ≡ formula s.nodes id' → id ≡ id'
  -- "No NaN in the store": no constant of any node is one
  pub numbers : (i id : ℕ) (s : Controller) → nth ss i ≡ some s → id < length s.nodes
      → nan_constant (at s.nodes id).kind (at s.nodes id).payload ≡ false
  -- an answered simplify at i, strict or not, of a formula of the exact kind, and a later answered prune of its answer at j, at a threshold
  -- from 0 to 1: the simplified formula is of the exact kind too; each of the three ids is that of a node, so that none of the three
  -- formulas is what stands for an id without one (`no_formula` of Formula.antt)
  pub balance : (m : Mode) (i j root depth budget id steps t answer kept_count dropped_count : ℕ) (spent : Bool) (p : ControllerCall)
      (s0 s1 s3 : Controller) → i < j
      → nth cs i ≡ some (simplifying m root depth budget) → nth al i ≡ some (simplified id spent steps)
      → nth cs j ≡ some p → prunes p ≡ some (id, bits t) → nth al j ≡ some (pruned answer kept_count dropped_count)
      → nth (empty_controller ∷ ss) i ≡ some s0 → nth ss i ≡ some s1 → nth ss j ≡ some s3
      → T (le (of_bits binary64 t) one64) → Exact (formula s0.nodes root)
      → (root < length s0.nodes) × (id < length s1.nodes) × (answer < length s3.nodes)
      × Exact (formula s1.nodes id)
      × Balanced (formula s0.nodes root) (formula s1.nodes id) (formula s3.nodes answer) (of_bits binary64 t) kept_count dropped_count
  -- a prune without a threshold: it answers the id untouched, "1 kept and 0 dropped; 23, 21 and 22 do not occur there"
  pub untouched_answers : (j id : ℕ) (p : ControllerCall) (s s' : Controller)
      → nth cs j ≡ some p → prunes p ≡ some (id, untouched) → nth (empty_controller ∷ ss) j ≡ some s → nth ss j ≡ some s' → id < length s.nodes
      → (nth al j ≡ some (pruned id 1 0)) × (s' ≡ s)
  -- and after an answered simplify at i, of a formula of the exact kind, a prune of its answer at j, without a threshold, is answered so
  -- and "demand 3's value balance still holds, with nothing dropped"
  pub untouched_balance : (m : Mode) (i j root depth budget id steps : ℕ) (spent : Bool) (p : ControllerCall) (s0 s1 s3 : Controller) → i < j
      → nth cs i ≡ some (simplifying m root depth budget) → nth al i ≡ some (simplified id spent steps)
      → nth cs j ≡ some p → prunes p ≡ some (id, untouched)
      → nth (empty_controller ∷ ss) i ≡ some s0 → nth ss i ≡ some s1 → nth ss j ≡ some s3
      → Exact (formula s0.nodes root)
      → (root < length s0.nodes) × (id < length s1.nodes) × (id < length s3.nodes) × (nth al j ≡ some (pruned id 1 0))
      × ((r : Reading) → value_of r (formula s0.nodes root) ≡ value_of r (formula s3.nodes id))
  -- an answered strict walk at i, spent or not, of any formula: "For every formula and all binary64 variable values, evaluating
  -- before and after gives the same bits, all NaNs counted as one"
  pub same_bits : (i root depth budget id steps : ℕ) (spent : Bool) (s0 s1 : Controller)
      → nth cs i ≡ some (simplifying strict root depth budget) → nth al i ≡ some (simplified id spent steps)
      → nth (empty_controller ∷ ss) i ≡ some s0 → nth ss i ≡ some s1
      → (root < length s0.nodes) × (id < length s1.nodes) × ((e : Evaluation) → bits_of e (formula s1.nodes id) ≡ bits_of e (formula s0.nodes root))
  -- and "A strict walk sets .. no marks", whatever it answers: it adds unmarked nodes and leaves each other one as it was
  pub no_marks : (i root depth budget : ℕ) (s0 s1 : Controller)
      → nth cs i ≡ some (simplifying strict root depth budget) → nth (empty_controller ∷ ss) i ≡ some s0 → nth ss i ≡ some s1
      → AddsUnmarked s0.nodes s1.nodes
  -- an answered number is that of the name that the call was given
  pub names_numbered : (i number : ℕ) (name : List ℕ) (c : NameCall) (s' : Controller)
      → nth cs i ≡ some (naming c) → spelled c ≡ some name → nth al i ≡ some (numbered number) → nth ss i ≡ some s'
      → nth s'.names number ≡ some name
  -- "a known name keeps its number", whatever is called
  pub names_stay : (i j number : ℕ) (name : List ℕ) (s s' : Controller) → i ≤ j
      → nth (empty_controller ∷ ss) i ≡ some s → nth (empty_controller ∷ ss) j ≡ some s' → nth s.names number ≡ some name
      → nth s'.names number ≡ some name
  -- and is answered with it, "also in a full list"
  pub names_known : (i number : ℕ) (name : List ℕ) (c : NameCall) (s : Controller)
      → nth cs i ≡ some (naming c) → spelled c ≡ some name → nth (empty_controller ∷ ss) i ≡ some s → nth s.names number ≡ some name
      → nth al i ≡ some (numbered number)
  -- and so is its number with the name
  pub names_told : (i number : ℕ) (name : List ℕ) (s : Controller)
      → nth cs i ≡ some (naming (name_of number)) → nth (empty_controller ∷ ss) i ≡ some s → nth s.names number ≡ some name
      → nth al i ≡ some (named name)
  -- no two numbers have one name
  pub names_unique : (i number number' : ℕ) (name : List ℕ) (s : Controller) → nth ss i ≡ some s
      → nth s.names number ≡ some name → nth s.names number' ≡ some name → number ≡ number'
  -- an answered reading has the formula of the one expression that its text denotes, under the names after it
  pub reads : (i id : ℕ) (text : List ℕ) (s' : Controller)
      → nth cs i ≡ some (reading text) → nth al i ≡ some (stored id) → nth ss i ≡ some s' → ReadTo text s' id
  -- and 1, 11, 12 and 10 are answered, with nothing changed, where the text meets them
  pub reads_refused : (i number : ℕ) (text : List ℕ) (s s' : Controller)
      → nth cs i ≡ some (reading text) → Refuses text number → nth (empty_controller ∷ ss) i ≡ some s → nth ss i ≡ some s'
      → (nth al i ≡ some (refused number)) × (s' ≡ s)
  -- a text that meets none of these makes the names and nodes of its expression; "Stopped by 24, 21 or 22, it keeps the names and nodes
  -- made before"
  pub reads_made : (i : ℕ) (text : List ℕ) (e : Expr) (a : ControllerAnswer) (s s' : Controller)
      → nth cs i ≡ some (reading text) → Denotes text e → nth al i ≡ some a → nth (empty_controller ∷ ss) i ≡ some s → nth ss i ≡ some s'
      → (a ≡ (from_made (make l e s)).answer) × (s' ≡ (from_made (make l e s)).left)
  -- and nothing else stops it
  pub reads_stopped : (i number : ℕ) (text : List ℕ) (e : Expr)
      → nth cs i ≡ some (reading text) → Denotes text e → nth al i ≡ some (refused number) → StopsReading number
  -- a name call changes no node, and a store call no name
  pub others_stay : (i : ℕ) (c : ControllerCall) (s s' : Controller)
      → nth cs i ≡ some c → nth (empty_controller ∷ ss) i ≡ some s → nth ss i ≡ some s' → All (SamePart s s') (spares c)

-- ---- demand 3, one statement about the whole list

-- Every list of calls that each meet their contract, from a fresh controller, keeps the promise, and every part is sound on the way.
abbrev pub Demand3 : Type 1
Demand3 = (M : ControllerModel) (m : M.Memory) (cs : List ControllerCall) (al : List ControllerAnswer) (ms : List M.Memory)
    → FreshController M m → History M m cs al ms → Promise (M.lent m) cs al (map M.view ms) × All (λ m'. (p : Part) → M.Sound m' p) ms
