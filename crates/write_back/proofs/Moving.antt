-- The value of a typed formula of the exact kind moves by less than the dropped count times the threshold.
use Rattle.std.specs.Prelude.{Some}
use Prim.Native.Nat.{ℕ}
use mathlib.Core.Path.{◌≡◌, refl, sym, ap, ◌∙◌, subst}
use mathlib.Core.Bool.{Bool}
use mathlib.Core.Option.{some}
use mathlib.Core.List.{List, [], ◌∷◌}
use lib.Dec.{T}
use lib.Ieee.{binary64, of_bits, le}
use native.Mathlib.Omega.{arith}
use Rattle.definitions.specs.Machine as M
use Rattle.definitions.specs.Walk.{standard}
use Rattle.definitions.specs.Patterns.{one64}
use Rattle.definitions.specs.Threshold.{bits}
use Rattle.definitions.specs.Formula.{formula}
use Rattle.definitions.specs.Value.{Reading, value_of}
use Rattle.definitions.specs.Exact.{Exact}
use Rattle.definitions.specs.Controller.{simplifying, pruning_by_setting, reading, stored, simplified, pruned, Part, store_part}
use Rattle.definitions.specs.Promise.{FreshController, History, done, next, Promise, All}
use Rattle.definitions.specs.Moved.{Moved}
use Rattle.definitions.specs.Beside.{beside}
use Rattle.definitions.proofs.Histories.{demand3}
use Rattle.definitions.proofs.Moved.{dropped_count_bounds}
use Rattle.definitions.proofs.Lifting.{lift_store}
use Rattle.store.specs.Memory.{Memory, model, Leaves}
use Rattle.names.specs.Memory.{name_model}
use Rattle.text.specs.Memory.{ControllerMemory, lent_controller, controller_of, lent_of}
use Rattle.std.specs.Prelude.{Ok}
use Rattle.writer.specs.Writing.{WrittenText}
use Rattle.write_back.specs.Ids.{id_of}
use Rattle.write_back.specs.Answers.{depth_limit, ample_budget, FormulaPruned, off, by}
use Rattle.write_back.specs.Moved.{HasThreshold, MovedText, ValueMoves}
use Rattle.write_back.proofs.Stages.{Calls, id_same, Stages, stages, was_read, id_is, i_is, same_names}

-- a prune by the setting that was given
pub at_setting : {n n' : ℕ} {m m' : Memory} {a : M.Answer} (i : ℕ) → n ≡ n' → Leaves (M.prune_by_setting i n) m a m' → Leaves (M.prune_by_setting i n') m a m'
at_setting {m = m} {m' = m'} {a = a} i e h = subst (λ (x : ℕ). Leaves (M.prune_by_setting i x) m a m') e h

-- ---- the three calls

module _ (typed : List ℕ) (m : ControllerMemory) (fresh : FreshController lent_controller m) {m1 m2 : ControllerMemory} {s : Memory} (id i steps j kept dropped setting : ℕ) (spent : Bool)
    (c1 : Calls (reading typed) m (stored id) m1) (c2 : Calls (simplifying standard (id_of id) depth_limit ample_budget) m1 (simplified i spent steps) m2)
    (c3 : Leaves (M.prune_by_setting (id_of i) setting) m2.store (M.pruned j kept dropped) s) where
  abbrev m3 : ControllerMemory
  m3 = beside model name_model s m2.names

  history : History lent_controller m (reading typed ∷ simplifying standard (id_of id) depth_limit ample_budget ∷ pruning_by_setting (id_of i) setting ∷ [])
      (stored id ∷ simplified i spent steps ∷ pruned j kept dropped ∷ []) (m1 ∷ m2 ∷ m3 ∷ [])
  history = next c1 (next c2 (next (lift_store model name_model (M.prune_by_setting (id_of i) setting) m2.store s (M.pruned j kept dropped) m2.names c3.called) done))

  pub kept_promise : Promise (lent_of m) (reading typed ∷ simplifying standard (id_of id) depth_limit ample_budget ∷ pruning_by_setting (id_of i) setting ∷ [])
      (stored id ∷ simplified i spent steps ∷ pruned j kept dropped ∷ []) (controller_of m1 ∷ controller_of m2 ∷ controller_of m3 ∷ [])
  kept_promise = (demand3 lent_controller m _ _ _ fresh history).0

  sound : All (λ n. (p : Part) → lent_controller.Sound n p) (m1 ∷ m2 ∷ m3 ∷ [])
  sound = (demand3 lent_controller m _ _ _ fresh history).1

  module _ (t : ℕ) (threshold : HasThreshold setting t) (one : T (le (of_bits binary64 t) one64)) where
    moved : Exact (formula (controller_of m1).nodes id) → (r : Reading)
        → Moved (value_of r (formula (controller_of m1).nodes id)) (value_of r (formula (controller_of m3).nodes (id_of j))) (of_bits binary64 t) dropped
    moved exact r =
        let id_same' = id_is typed m fresh id i steps spent c1 c2 in
        let i_same = i_is typed m fresh id i steps spent c1 c2 in
        let b = kept_promise.balance standard 1 2 (id_of id) depth_limit ample_budget i steps t j kept dropped spent (pruning_by_setting (id_of i) setting) (controller_of m1) (controller_of m2) (controller_of m3)
        (omega arith) refl refl refl (threshold (id_of i) ∙ ap (λ (x : ℕ). some (x, bits t)) i_same) refl refl refl refl one
        (subst (λ (x : ℕ). Exact (formula (controller_of m1).nodes x)) (sym id_same') exact) in
        let j_same : id_of j ≡ j = id_same s j (sound.1.1.0 store_part) b.2 in
        subst (λ (x : ℕ). Moved (value_of r (formula (controller_of m1).nodes x)) (value_of r (formula (controller_of m3).nodes (id_of j))) (of_bits binary64 t) dropped) id_same'
        (subst (λ (x : ℕ). Moved (value_of r (formula (controller_of m1).nodes (id_of id))) (value_of r (formula (controller_of m3).nodes x)) (of_bits binary64 t) dropped) (sym j_same)
        (dropped_count_bounds (formula (controller_of m1).nodes (id_of id)) (formula (controller_of m2).nodes i) (formula (controller_of m3).nodes j) (of_bits binary64 t) kept dropped one b.4 r))

    pub all_moved : (text : List ℕ) → WrittenText (controller_of m3) (id_of j) text → MovedText typed text t dropped
    all_moved text w = record {
      before = controller_of m1;
      id = id;
      read = was_read typed m fresh id i steps spent c1 c2;
      after = controller_of m3;
      same_names = same_names typed m fresh id i steps spent c1 c2;
      answer = id_of j;
      written = w;
      values = moved;
    }

-- ---- from the stages

module _ (typed : List ℕ) (setting t : ℕ) (m : ControllerMemory) (text : List ℕ) (fresh : FreshController lent_controller m) (threshold : HasThreshold setting t) (one : T (le (of_bits binary64 t) one64)) where
  pruned_so : {m1 m2 : ControllerMemory} {s : Memory} (id i steps j kept dropped : ℕ) (spent : Bool)
      → Calls (reading typed) m (stored id) m1 → Calls (simplifying standard (id_of id) depth_limit ample_budget) m1 (simplified i spent steps) m2
      → FormulaPruned (Some setting) m2.store i (Ok (record { id = j; kept = kept; dropped = dropped })) s → WrittenText (controller_of (beside model name_model s m2.names)) (id_of j) text
      → MovedText typed text t dropped
  pruned_so id i steps j kept dropped spent c1 c2 (off k) w = let z : ◌≡◌ {A = ℕ} 0 1 = cc in absurd (omega arith)
  pruned_so id i steps j kept dropped spent c1 c2 (by {setting = n} k h) w =
      let set : n ≡ setting = cc in
      all_moved typed m fresh id i steps j kept dropped setting spent c1 c2 (at_setting (id_of i) set h) t threshold one text w

  from_stages : {dropped : ℕ} → Stages typed (Some setting) m text dropped → MovedText typed text t dropped
  from_stages {dropped} g = pruned_so g.id g.i g.steps g.j g.kept dropped g.spent g.reads g.walks g.prunes g.writes

pub value_moves : ValueMoves
value_moves typed setting t m m' buffer buffer' size steps kept dropped spent deep fresh threshold one h =
    from_stages typed setting t m _ fresh threshold one (stages typed (Some setting) m buffer size steps kept dropped spent deep h)
