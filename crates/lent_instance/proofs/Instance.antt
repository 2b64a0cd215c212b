-- The promise at a list of calls on lent memory: flow + (flow + 0.0625), whose walk is cut short by its budget, with a refused call in between,
-- pruned by a setting with a threshold and by one without.
use Prim.Native.Nat.{ℕ, ◌/◌, ◌≤◌, ◌<◌, ◌*◌}
use mathlib.Core.Path.{◌≡◌, refl, ap, ap₂, subst}
use mathlib.Core.Bool.{Bool, true, false, ◌&&◌, ◌||◌}
use mathlib.Core.Option.{some}
use mathlib.Core.List.{List, [], ◌∷◌, map}
use lib.ListN.{length, get_or}
use lib.Dec.{T, leb, eqb, eqb→eq, lit≤, lit<}
use lib.Ieee.{binary64, of_bits, le, lt, eq, add as add_float, mul as mul_float, to_bits}
use native.Mathlib.Omega.{arith}
use borrow.Author.Tests.{lt-leb}
use Rattle.arena.specs.Layout.{node_words}
use Rattle.kinds.specs.Kind.{listed, operator_arity}
use Rattle.arena.specs.Node.{node_at, words_of, one, node_hash, coefficient, new_node, words_from}
use Rattle.hash.specs.Fnv.{node_hash_of, fnv_from, times_prime, bytes32, bytes64, children_bytes}
use Rattle.definitions.specs.Machine.{variable, constant, add}
use Rattle.definitions.specs.Names.{intern_name, same_name, entry_bytes}
use Rattle.definitions.specs.Node.{Node, node, variable_kind, constant_kind, add_kind, both_flags}
use Rattle.definitions.specs.Controller.{Controller, empty_controller, ControllerCall, ControllerAnswer, building, simplifying, naming, stored, refused, numbered, controller_answers, controllers, Part, store_part, names_part, pruning_by_setting, simplified, pruned}
use Rattle.definitions.specs.Walk.{standard}
use Rattle.definitions.specs.Formula.{Tree, tree, nil, cons, formula}
use Rattle.definitions.specs.Settings.{setting}
use Rattle.definitions.specs.Value.{Reading, value_of}
use Rattle.definitions.specs.Exact.{Exact, bound}
use Rattle.definitions.specs.Promise.{FreshController, All, Balanced, Promise}
use Rattle.definitions.proofs.Histories.{demand3}
use Rattle.store.specs.View.{plain_node, nodes_in}
use Rattle.slots.specs.Table.{hash_at}
use Rattle.slots.proofs.Inserting.{inserted_length}
use Rattle.definitions.specs.Limits.{first_table_size}
use Rattle.name_entries.specs.Entry.{entry_at, SoundEntry}
use Rattle.name_entries.specs.Sound.{SoundNames as NamesSound, names_of}
use Rattle.names.proofs.Modelled.{no_names}
use Rattle.text.specs.Memory.{ControllerMemory, lent_controller}
use Rattle.lent_instance.specs.Memory.{lent_nodes, lent_names, lent_here, words_for, bytes_for, memory_for}
use Rattle.lent_instance.proofs.Checking.{every_below, store_sound, store_sound_lem}
use Rattle.lent_instance.proofs.Histories.{Held, history_held}

abbrev flow : List ℕ
flow = 102 ∷ 108 ∷ 111 ∷ 119 ∷ []

abbrev calls : List ControllerCall
calls =
    naming (intern_name flow) ∷ building (variable 0) ∷ building (constant 0x3FB0000000000000) ∷ building (add 0 1) ∷ building (add 0 2)
    ∷ building (add 0 9) ∷ simplifying standard 3 255 5 ∷ pruning_by_setting 3 200 ∷ pruning_by_setting 3 0 ∷ []

pub answers_are : controller_answers lent_here empty_controller calls
    ≡ numbered 0 ∷ stored 0 ∷ stored 1 ∷ stored 2 ∷ stored 3 ∷ refused 4 ∷ simplified 3 true 5 ∷ pruned 4 2 1 ∷ pruned 3 1 0 ∷ []
unfolding controller_answers same_name add_float le lt eq of_bits
answers_are = refl

-- ---- the memory after each call is sound

-- the one name
flow_sound : NamesSound (bytes_for (flow ∷ [])) 1
flow_sound = record {
  many = lit≤ tt;
  lent = lit≤ tt;
  entries = λ i l. let z : 0 ≡ i = omega arith in subst (λ (k : ℕ). SoundEntry (entry_at (bytes_for (flow ∷ [])) k)) z entry;
  once = λ i j l m e. omega arith;
}
  where
    entry : SoundEntry (entry_at (bytes_for (flow ∷ [])) 0)
    entry = record {
      shortest = lit≤ tt;
      longest = lit≤ tt;
      unused = λ j l m. unused j l (every_below entry_bytes (λ j. leb j 4 || eqb (get_or (entry_at (bytes_for (flow ∷ [])) 0) j 0) 0) tt j m);
    }
      where
        unused : (j : ℕ) → 4 < j → T (leb j 4 || eqb (get_or (entry_at (bytes_for (flow ∷ [])) 0) j 0) 0) → get_or (entry_at (bytes_for (flow ∷ [])) 0) j 0 ≡ 0
        unused j l t = eqb→eq (get_or (entry_at (bytes_for (flow ∷ [])) 0) j 0) 0 (subst (λ (b : Bool). T (b || eqb (get_or (entry_at (bytes_for (flow ∷ [])) 0) j 0) 0)) (lt-leb j 4 l) t)

abbrev state_after : ℕ → Controller
state_after n = get_or (empty_controller ∷ controllers lent_here empty_controller calls) n empty_controller

held_empty : Held empty_controller
unfolding store_sound nodes_in names_of
held_empty = record {
  sound = sounds;
  view = refl;
  lent = ap (λ (b : ℕ). record { store = record { nodes = lent_nodes; slots = b }; names = lent_names }) (inserted_length (hash_at (words_for [])) first_table_size 0);
}
  where
    sounds : (p : Part) → lent_controller.Sound (memory_for empty_controller) p
    sounds store_part = store_sound_lem (words_for []) 0 tt
    sounds names_part = (no_names (bytes_for [])).sound

-- the nodes of a state, beside the one name
held_named : (ns : List Node) → T (store_sound (words_for ns) (length ns)) → nodes_in (words_for ns) (length ns) ≡ ns → length (words_for ns) ≡ lent_nodes * node_words
    → Held (record { nodes = ns; names = flow ∷ [] })
unfolding names_of
held_named ns t v w = record {
  sound = sounds;
  view = ap (λ (ms : List Node). record { nodes = ms; names = flow ∷ [] }) v;
  lent = ap₂ (λ (a b : ℕ). record { store = record { nodes = a / node_words; slots = b }; names = 1 }) w (inserted_length (hash_at (words_for ns)) first_table_size (length ns));
}
  where
    sounds : (p : Part) → lent_controller.Sound (memory_for (record { nodes = ns; names = flow ∷ [] })) p
    sounds store_part = store_sound_lem (words_for ns) (length ns) t
    sounds names_part = flow_sound

-- the nodes that the calls make, the walk marks the third of, and the prune adds the last to
abbrev x : Node
x = node variable_kind 0 0 []

abbrev c : Node
c = node constant_kind 0x3FB0000000000000 0 []

abbrev inner : Bool → Node
inner marked = record { kind = add_kind; payload = 0; flags = both_flags; canonical = marked; children = 0 ∷ 1 ∷ [] }

abbrev outer : Node
outer = node add_kind 0 both_flags (0 ∷ 2 ∷ [])

abbrev kept : Node
kept = node add_kind 0 both_flags (0 ∷ 0 ∷ [])

held : (ns : List Node) → T (store_sound (words_for ns) (length ns)) → nodes_in (words_for ns) (length ns) ≡ ns → T (eqb (length (words_for ns)) (lent_nodes * node_words))
    → Held (record { nodes = ns; names = flow ∷ [] })
held ns t v l = held_named ns t v (eqb→eq (length (words_for ns)) (lent_nodes * node_words) l)

all_held : All Held (controllers lent_here empty_controller calls)
unfolding controllers same_name add_float le lt eq of_bits store_sound nodes_in plain_node node_at words_from words_of new_node node_hash_of fnv_from times_prime bytes32 bytes64 children_bytes coefficient listed operator_arity one node_hash
all_held = (
  held [] tt refl tt,
  (
    held (x ∷ []) tt refl tt,
    (
      held (x ∷ c ∷ []) tt refl tt,
      (
        held (x ∷ c ∷ inner false ∷ []) tt refl tt,
        (
          held (x ∷ c ∷ inner false ∷ outer ∷ []) tt refl tt,
          (
            held (x ∷ c ∷ inner false ∷ outer ∷ []) tt refl tt,
            (
              held (x ∷ c ∷ inner true ∷ outer ∷ []) tt refl tt,
              (
                held (x ∷ c ∷ inner true ∷ outer ∷ kept ∷ []) tt refl tt,
                (held (x ∷ c ∷ inner true ∷ outer ∷ kept ∷ []) tt refl tt, tt),
              ),
            ),
          ),
        ),
      ),
    ),
  ),
)

-- ---- the promise

abbrev answers : List ControllerAnswer
answers = controller_answers lent_here empty_controller calls

abbrev memories : List ControllerMemory
memories = map memory_for (controllers lent_here empty_controller calls)

fresh : FreshController lent_controller (memory_for empty_controller)
fresh = record { sound = held_empty.sound; view = held_empty.view }

pub promised : Promise (lent_controller.lent (memory_for empty_controller)) calls answers (map lent_controller.view memories)
promised = (demand3 lent_controller (memory_for empty_controller) calls answers memories fresh (history_held empty_controller calls held_empty all_held)).0

-- the memory after a call, as the plain machine sees it
abbrev seen_after : ℕ → Controller
seen_after n = get_or (empty_controller ∷ map lent_controller.view memories) n empty_controller

-- flow + (flow + 0.0625) is of the exact kind
old_is_exact : Exact (formula (seen_after 6).nodes 3)
unfolding Exact formula controllers of_bits bound nodes_in plain_node node_at words_from words_of new_node same_name add_float le lt eq
old_is_exact = (lit≤ tt, tt, ((lit≤ tt, tt, tt), ((lit≤ tt, tt, ((lit≤ tt, tt, tt), ((lit≤ tt, tt, tt), tt))), tt)))

-- 0.1, the threshold of setting 200
abbrev tenth : ℕ
tenth = 0x3FB999999999999A

-- flow, 0.0625, and flow + (flow + 0.0625)
abbrev flow_tree : Tree
flow_tree = tree variable_kind 0 0 nil

abbrev sixteenth_tree : Tree
sixteenth_tree = tree constant_kind 0x3FB0000000000000 0 nil

abbrev sum_tree : Tree → Tree → Tree
sum_tree a b = tree add_kind 0 both_flags (cons a (cons b nil))

abbrev old_tree : Tree
old_tree = sum_tree flow_tree (sum_tree flow_tree sixteenth_tree)

-- The walk at 6 was spent, and the prune at 7 dropped 0.0625 by setting 200: the old value is that of flow + flow and 0.0625.
pub instance : Balanced old_tree old_tree (sum_tree flow_tree flow_tree) (of_bits binary64 tenth) 2 1
unfolding controller_answers controllers same_name add_float le lt eq of_bits setting formula nodes_in plain_node node_at words_from words_of new_node
instance =
    (promised.balance standard 6 7 3 255 5 3 5 tenth 4 2 1 true (pruning_by_setting 3 200) (seen_after 6) (seen_after 7) (seen_after 8) (lit< tt)
    refl refl refl refl refl refl refl refl tt old_is_exact).4

-- The prune at 8, by a setting without a threshold, answers the spent walk's answer untouched, and the value of its formula is the old one.
pub untouched_instance : (r : Reading) → value_of r old_tree ≡ value_of r (formula (seen_after 9).nodes 3)
unfolding controller_answers controllers same_name add_float le lt eq of_bits setting formula nodes_in plain_node node_at words_from words_of new_node
untouched_instance =
    (promised.untouched_balance standard 6 8 3 255 5 3 5 true (pruning_by_setting 3 0) (seen_after 6) (seen_after 7) (seen_after 9) (lit< tt)
    refl refl refl refl refl refl refl old_is_exact).4

-- the memory is sound after every call, the refused one and the spent walk too
pub sound_after : All (λ m. (p : Part) → lent_controller.Sound m p) memories
sound_after = (demand3 lent_controller (memory_for empty_controller) calls answers memories fresh (history_held empty_controller calls held_empty all_held)).1
