-- The calls behind a text that was written: the reading, the walk, the prune where there is one, and the write.
use Rattle.std.specs.Prelude.{Option, Result, Ok}
use Rattle.write_back.specs.declared.Written.{Written}
use Prim.Native.Nat.{ℕ, ◌<◌}
use mathlib.Core.Path.{◌≡◌, refl, sym, ap, ◌∙◌, subst}
use mathlib.Core.Bool.{Bool}
use mathlib.Core.List.{List, [], ◌∷◌}
use lib.ListN.{length, take, drop}
use lib.Seq.{take_at}
use native.Mathlib.Omega.{arith}
use Rattle.definitions.specs.Walk.{standard}
use Rattle.definitions.specs.Machine as M
use Rattle.definitions.specs.Machine.{state, simplify, call}
use Rattle.definitions.specs.Formula.{formula}
use Rattle.definitions.specs.Value.{Reading, value_of}
use Rattle.definitions.specs.Exact.{Exact}
use Rattle.definitions.specs.Controller.{LentLists, Controller, ControllerCall, ControllerAnswer, empty_controller, simplifying, reading, stored, simplified, controller_call, Part, store_part, names_part}
use Rattle.definitions.specs.Promise.{ControllerCalled, FreshController, History, done, next, Promise, All, ReadTo}
use Rattle.definitions.specs.Beside.{beside}
use Rattle.definitions.proofs.Floats.{laws}
use Rattle.definitions.proofs.Refine.{Replaces}
use Rattle.definitions.proofs.Answers.{from_simplified}
use Rattle.definitions.proofs.SimplifyCalls.{SimplifySays, simplifies}
use Rattle.definitions.proofs.NameLists.{none_listed}
use Rattle.definitions.proofs.Going.{Whole, whole_after}
use Rattle.definitions.proofs.Histories.{call_goes, demand3}
use Rattle.definitions.proofs.Lifting.{lift_store}
use Rattle.store.specs.declared.NodeAnswer.TheVariants as store
use Rattle.store.specs.Memory.{Memory, model}
use Rattle.store.proofs.Viewing.{plain_length}
use Rattle.names.specs.Memory.{name_model}
use Rattle.text.specs.Memory.{ControllerMemory, lent_controller, controller_of, lent_of}
use Rattle.text.proofs.Calling.{read_called}
use Rattle.std.specs.Prelude.{Ok}
use Rattle.writer.specs.Answers as Write
use Rattle.writer.specs.Writing.{WrittenText, Writes, unsound, unknown, textless, too_long, written}
use Rattle.write_back.specs.Ids.{id_of}
use Rattle.write_back.specs.Answers.{depth_limit, ample_budget, may_be_deeper, FormulaPruned, FinishesFormula, unpruned, finished, Simplifies, unsimplified, walked, Answers, unread, read}

-- a call that meets its contract
abbrev pub Calls : ControllerCall → ControllerMemory → ControllerAnswer → ControllerMemory → Type 0
Calls c m a m' = ControllerCalled lent_controller c m a m'

-- ---- ids

-- an id of a sound store is taken as it is
pub id_same : (s : Memory) (i : ℕ) → model.Sound s → i < length (model.view s).nodes → id_of i ≡ i
id_same s i h l =
    let many = h.nodes.formed.many in
    omega (arith, plain_length s.words s.arena.count)

-- a walk answers an id of the nodes after it, and its formula may stand for the root's
module _ (l : LentLists) (s : Controller) (root depth budget id steps : ℕ) (spent : Bool) where
  abbrev after : Controller
  after = (controller_call l s (simplifying standard root depth budget)).left

  pub walk_says : Whole s → (controller_call l s (simplifying standard root depth budget)).answer ≡ simplified id spent steps
      → (root < length s.nodes) × (id < length after.nodes) × Replaces (formula after.nodes id) (formula s.nodes root)
  unfolding controller_call call
  walk_says w e =
      let c = simplify standard root depth budget in
      let f = from_simplified (call l.store (state s.nodes) c).answer id spent steps e in
      subst (SimplifySays s.nodes root (call l.store (state s.nodes) c).left.nodes) f (simplifies laws l.store standard s.nodes root depth budget w.nodes).says

empty_whole : Whole empty_controller
empty_whole = record { nodes = λ i h. absurd (omega arith); names = none_listed }

-- ---- the text that stands in the buffer

text_in : {m : ControllerMemory} {id : ℕ} {buffer buffer' : List ℕ} {r : Write.WriteAnswer} (size : ℕ) → Writes m id buffer r buffer' → r ≡ Write.Length size → WrittenText (controller_of m) id (take size buffer')
text_in size (unsound n) e = let z : ◌≡◌ {A = ℕ} 0 1 = cc in absurd (omega arith)
text_in size (unknown h l) e = let z : ◌≡◌ {A = ℕ} 0 1 = cc in absurd (omega arith)
text_in size (textless h l n) e = let z : ◌≡◌ {A = ℕ} 0 1 = cc in absurd (omega arith)
text_in size (too_long h l w n) e = let z : ◌≡◌ {A = ℕ} 0 1 = cc in absurd (omega arith)
text_in {m} {id} {buffer} size (written {t} h l w n b) e =
    let q : length t ≡ size = cc in
    subst (WrittenText (controller_of m) id) (sym (take_at t (drop (length t) buffer) size q)) w

-- ---- from the cases of `Answers`

-- the lists after the reading and after the walk, the store after the prune, and what each call answered
pub record Stages (typed : List ℕ) (pruning : Option ℕ) (m : ControllerMemory) (text : List ℕ) (dropped : ℕ) : Type 0 where
  pub m1 : ControllerMemory
  pub m2 : ControllerMemory
  pub s : Memory
  pub id : ℕ
  pub i : ℕ
  pub steps : ℕ
  pub spent : Bool
  pub j : ℕ
  pub kept : ℕ
  pub reads : Calls (reading typed) m (stored id) m1
  pub walks : Calls (simplifying standard (id_of id) depth_limit ample_budget) m1 (simplified i spent steps) m2
  pub prunes : FormulaPruned pruning m2.store i (Ok (record { id = j; kept = kept; dropped = dropped })) s
  pub writes : WrittenText (controller_of (beside model name_model s m2.names)) (id_of j) text

module _ (typed : List ℕ) (pruning : Option ℕ) (m : ControllerMemory) (buffer : List ℕ) (size steps kept dropped : ℕ) (spent deep : Bool) where
  finishes : {m1 m2 m' : ControllerMemory} {buffer' : List ℕ} {o : Result Written ℕ} (id i steps' : ℕ) (spent' deep' : Bool)
      → Calls (reading typed) m (stored id) m1 → Calls (simplifying standard (id_of id) depth_limit ample_budget) m1 (simplified i spent' steps') m2
      → FinishesFormula pruning steps' spent' deep' m2 i buffer o m' buffer' → o ≡ Ok (record { length = size; steps = steps; spent = spent; deep = deep; kept = kept; dropped = dropped }) → Stages typed pruning m (take size buffer') dropped
  finishes id i steps' spent' deep' c1 c2 (unpruned p) e = let z : ◌≡◌ {A = ℕ} 0 1 = cc in absurd (omega arith)
  finishes id i steps' spent' deep' c1 c2 (finished {a = Write.Refused number} p w) e = let z : ◌≡◌ {A = ℕ} 0 1 = cc in absurd (omega arith)
  finishes {m1} {m2} {buffer' = buffer'} id i steps' spent' deep' c1 c2 (finished {i = j} {kept = kept'} {dropped = dropped'} {s = s} {a = Write.Length n} p w) e =
      let told : ◌≡◌ {A = Written} (record { length = n; steps = steps'; spent = spent'; deep = deep'; kept = kept'; dropped = dropped' })
      (record { length = size; steps = steps; spent = spent; deep = deep; kept = kept; dropped = dropped }) = cc in
      let same : n ≡ size = ap (λ (x : Written). x.length) told in
      let drops : dropped' ≡ dropped = ap (λ (x : Written). x.dropped) told in
      subst (Stages typed pruning m (take size buffer')) drops
      (record {
        m1 = m1;
        m2 = m2;
        s = s;
        id = id;
        i = i;
        steps = steps';
        spent = spent';
        j = j;
        kept = kept';
        reads = c1;
        walks = c2;
        prunes = p;
        writes = text_in size w (ap Write.Length same);
      })

  simplified_so : {m1 m' : ControllerMemory} {buffer' : List ℕ} {o : Result Written ℕ} (id : ℕ) → Calls (reading typed) m (stored id) m1
      → Simplifies pruning m1 id buffer o m' buffer' → o ≡ Ok (record { length = size; steps = steps; spent = spent; deep = deep; kept = kept; dropped = dropped }) → Stages typed pruning m (take size buffer') dropped
  simplified_so id c1 (unsimplified c) e = let z : ◌≡◌ {A = ℕ} 0 1 = cc in absurd (omega arith)
  simplified_so {m1} id c1 (walked {i = i} {steps = steps'} {spent = spent'} {s = s} h f) e =
      let c2 = lift_store model name_model (M.simplify standard (id_of id) depth_limit ample_budget) m1.store s (M.simplified i spent' steps') m1.names h.called in
      finishes id i steps' spent' (may_be_deeper id) c1 c2 f e

  answered_so : {m' : ControllerMemory} {buffer' : List ℕ} {o : Result Written ℕ} → Answers typed pruning m buffer o m' buffer'
      → o ≡ Ok (record { length = size; steps = steps; spent = spent; deep = deep; kept = kept; dropped = dropped }) → Stages typed pruning m (take size buffer') dropped
  answered_so (unread c) e = let z : ◌≡◌ {A = ℕ} 0 1 = cc in absurd (omega arith)
  answered_so (read {id = id} {m' = m1} r f) e = simplified_so id (read_called typed m m1 (store.Id id) r) f e

  pub stages : {m' : ControllerMemory} {buffer' : List ℕ} → Answers typed pruning m buffer (Ok (record { length = size; steps = steps; spent = spent; deep = deep; kept = kept; dropped = dropped })) m' buffer'
      → Stages typed pruning m (take size buffer') dropped
  stages h = answered_so h refl

-- ---- the reading and the walk

module _ (typed : List ℕ) (m : ControllerMemory) (fresh : FreshController lent_controller m) {m1 m2 : ControllerMemory} (id i steps : ℕ) (spent : Bool)
    (c1 : Calls (reading typed) m (stored id) m1) (c2 : Calls (simplifying standard (id_of id) depth_limit ample_budget) m1 (simplified i spent steps) m2) where
  history : History lent_controller m (reading typed ∷ simplifying standard (id_of id) depth_limit ample_budget ∷ []) (stored id ∷ simplified i spent steps ∷ []) (m1 ∷ m2 ∷ [])
  history = next c1 (next c2 done)

  kept_promise : Promise (lent_of m) (reading typed ∷ simplifying standard (id_of id) depth_limit ample_budget ∷ []) (stored id ∷ simplified i spent steps ∷ [])
      (controller_of m1 ∷ controller_of m2 ∷ [])
  kept_promise = (demand3 lent_controller m _ _ _ fresh history).0

  sound : All (λ n. (p : Part) → lent_controller.Sound n p) (m1 ∷ m2 ∷ [])
  sound = (demand3 lent_controller m _ _ _ fresh history).1

  pub was_read : ReadTo typed (controller_of m1) id
  was_read = kept_promise.reads 0 id typed (controller_of m1) refl refl refl

  pub id_is : id_of id ≡ id
  id_is = id_same m1.store id (sound.0 store_part) was_read.known

  whole1 : Whole (controller_of m1)
  whole1 =
      subst Whole (sym (c1.left (fresh.sound store_part, (fresh.sound names_part, tt))))
      (whole_after (call_goes (lent_of m) (controller_of m) (reading typed) (subst Whole (sym fresh.view) empty_whole)))

  says : (id_of id < length (controller_of m1).nodes) × (i < length (controller_of m2).nodes) × Replaces (formula (controller_of m2).nodes i) (formula (controller_of m1).nodes (id_of id))
  says =
      let a = c2.answer (sound.0 store_part, tt) in
      let b = c2.left (sound.0 store_part, tt) in
      subst (λ (x : Controller). (id_of id < length (controller_of m1).nodes) × (i < length x.nodes) × Replaces (formula x.nodes i) (formula (controller_of m1).nodes (id_of id))) (sym b)
      (walk_says (lent_of m1) (controller_of m1) (id_of id) depth_limit ample_budget i steps spent whole1 (sym a))

  pub walked_below : i < length (controller_of m2).nodes
  walked_below = says.1

  pub i_is : id_of i ≡ i
  i_is = id_same m2.store i (sound.1.0 store_part) walked_below

  pub same_value : Exact (formula (controller_of m1).nodes id) → (r : Reading) → value_of r (formula (controller_of m1).nodes id) ≡ value_of r (formula (controller_of m2).nodes i)
  same_value exact r =
      ap (λ (x : ℕ). value_of r (formula (controller_of m1).nodes x)) (sym id_is)
      ∙ sym ((says.2 (subst (λ (x : ℕ). Exact (formula (controller_of m1).nodes x)) (sym id_is) exact)).equal r)

  pub same_names : (controller_of m2).names ≡ (controller_of m1).names
  same_names = ap name_model.view c2.untouched.0
