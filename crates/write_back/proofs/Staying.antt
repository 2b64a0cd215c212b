-- Without a threshold the value of a typed formula of the exact kind does not move.
use Rattle.std.specs.Prelude.{Option}
use Prim.Native.Nat.{ℕ, ◌<◌}
use mathlib.Core.Path.{◌≡◌, refl, sym, ap, ◌∙◌, subst}
use mathlib.Core.Bool.{Bool}
use mathlib.Core.Option.{some}
use mathlib.Core.List.{List}
use lib.ListN.{length}
use borrow.Author.Tests.{lt-ltb}
use Rattle.definitions.specs.Machine as M
use Rattle.definitions.specs.Walk.{standard}
use Rattle.definitions.specs.Threshold.{Threshold, untouched}
use Rattle.definitions.specs.Settings.{first_pruning_setting, setting}
use Rattle.definitions.specs.Controller.{Controller, simplifying, pruning_by_setting, reading, stored, simplified}
use Rattle.definitions.specs.Promise.{FreshController}
use Rattle.definitions.specs.Beside.{beside}
use Rattle.store.specs.Memory.{Memory, model, Leaves}
use Rattle.names.specs.Memory.{name_model}
use Rattle.text.specs.Memory.{ControllerMemory, lent_controller, controller_of}
use Rattle.std.specs.Prelude.{Ok}
use Rattle.writer.specs.Writing.{WrittenText}
use Rattle.write_back.specs.Ids.{id_of}
use Rattle.write_back.specs.Answers.{depth_limit, ample_budget, FormulaPruned, off, by}
use Rattle.write_back.specs.Moved.{NoThreshold, SameText, ValueStays}
use Rattle.write_back.proofs.Stages.{Calls, Stages, stages, was_read, walked_below, i_is, same_value, same_names}
use Rattle.write_back.proofs.Moving.{kept_promise}

-- a setting from 0 to 19 has no threshold
none_below : (n : ℕ) → n < first_pruning_setting → setting n ≡ untouched
unfolding setting
none_below n h = rw (lt-ltb n first_pruning_setting h) refl

module _ (typed : List ℕ) (m : ControllerMemory) (text : List ℕ) (fresh : FreshController lent_controller m) {m1 m2 : ControllerMemory} (id i steps : ℕ) (spent : Bool)
    (c1 : Calls (reading typed) m (stored id) m1) (c2 : Calls (simplifying standard (id_of id) depth_limit ample_budget) m1 (simplified i spent steps) m2) where
  -- the walk's answer was written
  all_same : WrittenText (controller_of m2) i text → SameText typed text
  all_same w = record {
    before = controller_of m1;
    id = id;
    read = was_read typed m fresh id i steps spent c1 c2;
    after = controller_of m2;
    same_names = same_names typed m fresh id i steps spent c1 c2;
    answer = i;
    written = w;
    values = same_value typed m fresh id i steps spent c1 c2;
  }

  i_same : id_of i ≡ i
  i_same = i_is typed m fresh id i steps spent c1 c2

  -- a prune by a setting from 0 to 19 answers its root and leaves the lists
  unpruned : {s : Memory} (j kept dropped n : ℕ) → n < first_pruning_setting → Leaves (M.prune_by_setting (id_of i) n) m2.store (M.pruned j kept dropped) s
      → WrittenText (controller_of (beside model name_model s m2.names)) (id_of j) text → WrittenText (controller_of m2) i text
  unpruned {s} j kept dropped n h c3 w =
      let m3 : ControllerMemory = beside model name_model s m2.names in
      let below : id_of i < length (controller_of m2).nodes = subst (λ (x : ℕ). x < length (controller_of m2).nodes) (sym i_same) (walked_below typed m fresh id i steps spent c1 c2) in
      let u = (kept_promise typed m fresh id i steps j kept dropped n spent c1 c2 c3).untouched_answers 2 (id_of i) (pruning_by_setting (id_of i) n) (controller_of m2) (controller_of m3) refl
      (ap (λ (x : Threshold). some (id_of i, x)) (none_below n h)) refl refl below in
      let e = u.0 in
      let answered : j ≡ id_of i = cc in
      let same : id_of j ≡ i = ap id_of (answered ∙ i_same) ∙ i_same in
      subst (λ (x : ℕ). WrittenText (controller_of m2) x text) same (subst (λ (x : Controller). WrittenText x (id_of j) text) u.1 w)

  pruned_so : {pruning : Option ℕ} {s : Memory} (j kept dropped : ℕ) → NoThreshold pruning
      → FormulaPruned pruning m2.store i (Ok (record { id = j; kept = kept; dropped = dropped })) s → WrittenText (controller_of (beside model name_model s m2.names)) (id_of j) text → SameText typed text
  pruned_so j kept dropped n (off k) w = all_same (subst (λ (x : ℕ). WrittenText (controller_of m2) x text) i_same w)
  pruned_so j kept dropped n (by {setting = setting} k h) w = all_same (unpruned j kept dropped setting (subst NoThreshold k n) h w)

from_stages : {typed text : List ℕ} {pruning : Option ℕ} {m : ControllerMemory} {dropped : ℕ} → FreshController lent_controller m → NoThreshold pruning
    → Stages typed pruning m text dropped → SameText typed text
from_stages {typed} {text} {m = m} {dropped = dropped} fresh n g =
    pruned_so typed m text fresh g.id g.i g.steps g.spent g.reads g.walks g.j g.kept dropped n g.prunes g.writes

pub value_stays : ValueStays
value_stays typed pruning m m' buffer buffer' size steps kept dropped spent deep fresh n h =
    from_stages fresh n (stages typed pruning m buffer size steps kept dropped spent deep h)
