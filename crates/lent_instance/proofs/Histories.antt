-- A list of calls whose states fit into the memory here has a history on lent memory.
use Prim.Native.Nat.{ℕ, ◌≤◌, ◌<◌}
use mathlib.Core.Path.{◌≡◌, refl, sym, ap, ap₂, ◌∙◌}
use mathlib.Core.Bool.{Bool, ◌&&◌, ◌||◌}
use mathlib.Core.List.{List, [], ◌∷◌, map}
use lib.ListN.{length, get_or}
use lib.Dec.{T, leb, ltb, eqb, leb→le, eqb→eq}
use native.Mathlib.Omega.{arith}
use Rattle.definitions.specs.Node.{Node}
use Rattle.definitions.specs.Names.{shortest_name, longest_name, entry_bytes, most_names}
use Rattle.definitions.specs.Lists.{LentLists, Controller}
use Rattle.definitions.specs.Controller.{ControllerCall, building, simplifying, pruning, pruning_by_setting, naming, reading, ControllerAnswer, controller_call, AfterCall, controller_answers, controllers, Part, store_part, names_part, takes, untaken, SamePart}
use Rattle.definitions.specs.Promise.{ControllerCalled, FreshController, History, done, next, All}
use Rattle.definitions.proofs.Histories.{all_of, call_untouched}
use Rattle.name_entries.specs.Entry.{entry_at, SoundEntry}
use Rattle.name_entries.specs.Sound.{SoundNames, lent_entries}
use Rattle.text.specs.Memory.{lent_controller}
use Rattle.lent_instance.specs.Memory.{lent_here, memory_for}

-- the memory of a state is sound, holds the state, and is as large as every other
pub record Held (s : Controller) : Type 0 where
  pub sound : (p : Part) → lent_controller.Sound (memory_for s) p
  pub view : lent_controller.view (memory_for s) ≡ s
  pub lent : lent_controller.lent (memory_for s) ≡ lent_here

-- the memories of the same parts are the same
same_parts : (s s' : Controller) (p : Part) → SamePart s s' p → lent_controller.Same (memory_for s) (memory_for s') p
same_parts s s' store_part e = ap (λ (ns : List Node). (memory_for (record { nodes = ns; names = s.names })).store) e
same_parts s s' names_part e = ap (λ (names : List (List ℕ)). (memory_for (record { nodes = s.nodes; names = names })).names) e

all_same : (s s' : Controller) (ps : List Part) → All (SamePart s s') ps → All (lent_controller.Same (memory_for s) (memory_for s')) ps
all_same s s' [] h = tt
all_same s s' (p ∷ ps) h = (same_parts s s' p h.0, all_same s s' ps h.1)

-- one call, from a memory that holds a state to one that holds the state after it
held_called : (s : Controller) (c : ControllerCall) → Held s → Held (controller_call lent_here s c).left
    → ControllerCalled lent_controller c (memory_for s) (controller_call lent_here s c).answer (memory_for (controller_call lent_here s c).left)
held_called s c h k =
    let plain : controller_call (lent_controller.lent (memory_for s)) (lent_controller.view (memory_for s)) c ≡ controller_call lent_here s c =
    ap₂ (λ (l : LentLists) (t : Controller). controller_call l t c) h.lent h.view in
    record {
      unsound = λ u. absurd (u (all_of (lent_controller.Sound (memory_for s)) h.sound (takes c)));
      answer = λ u. ap (λ (r : AfterCall). r.answer) (sym plain);
      left = λ u. k.view ∙ ap (λ (r : AfterCall). r.left) (sym plain);
      sound = λ u p g. k.sound p;
      untouched = all_same s (controller_call lent_here s c).left (untaken c) (call_untouched lent_here s c);
      same_lent = k.lent ∙ sym h.lent;
    }

pub history_held : (s : Controller) (cs : List ControllerCall) → Held s → All Held (controllers lent_here s cs)
    → History lent_controller (memory_for s) cs (controller_answers lent_here s cs) (map memory_for (controllers lent_here s cs))
unfolding controller_answers controllers
history_held s [] h hs = done
history_held s (c ∷ cs) h hs = next (held_called s c h hs.0) (history_held (controller_call lent_here s c).left cs hs.0 hs.1)
