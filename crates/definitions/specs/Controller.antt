-- The controller's plain machine: the store's plain machine and the plain registry of names side by side, with name calls and readings
-- beside the store's calls. Store and names are empty at first and are handed on from call to call; how many places are lent is known. It
-- stands over both and changes neither. A later call is one constructor more, and a later list one field more.
use Rattle.std.specs.Prelude.{ℕ, ◌≡◌, Bool, List, [], ◌∷◌}
pub use Rattle.definitions.specs.Lists.{LentLists, Controller, empty_controller}
use Rattle.definitions.specs.Walk.{Mode}
use Rattle.definitions.specs.Machine.{Store, Call, store, simplify, prune, prune_by_setting, Answer, State, state, call}
use Rattle.definitions.specs.Machine as Machine
use Rattle.definitions.specs.Names.{NameCall, intern_name, lookup_name, name_of, NameAnswer, name_call}
use Rattle.definitions.specs.Names as Names
use Rattle.definitions.specs.Making.{Made, made, stopped, make}
use Rattle.text_language.specs.Reading.{Verdict, refuses, denotes, verdict}

-- ---- calls

-- each call with any arguments; a call names no list, for it gets the controller's
pub data ControllerCall : Type 0 where
  building : Store → ControllerCall
  simplifying : Mode → ℕ → ℕ → ℕ → ControllerCall
  pruning : ℕ → ℕ → ControllerCall
  pruning_by_setting : ℕ → ℕ → ControllerCall
  naming : NameCall → ControllerCall
  reading : List ℕ → ControllerCall  -- the bytes of a text

-- what the store's calls and the names' answer, and one refusal for all
pub data ControllerAnswer : Type 0 where
  stored : ℕ → ControllerAnswer
  simplified : ℕ → Bool → ℕ → ControllerAnswer
  pruned : ℕ → ℕ → ℕ → ControllerAnswer
  numbered : ℕ → ControllerAnswer
  unknown : ControllerAnswer
  named : List ℕ → ControllerAnswer
  refused : ℕ → ControllerAnswer

abbrev pub from_store : Answer → ControllerAnswer
from_store (Machine.stored id) = stored id
from_store (Machine.simplified id spent steps) = simplified id spent steps
from_store (Machine.pruned id kept dropped) = pruned id kept dropped
from_store (Machine.refused number) = refused number

abbrev pub from_names : NameAnswer → ControllerAnswer
from_names (Names.numbered number) = numbered number
from_names Names.unknown = unknown
from_names (Names.named name) = named name
from_names (Names.refused number) = refused number

-- what a call leaves
pub record AfterCall : Type 0 where
  pub answer : ControllerAnswer
  pub left : Controller

-- a call of the store changes the nodes alone
abbrev pub on_store : LentLists → Controller → Call → AfterCall
on_store l s c =
    let a = call l.store (state s.nodes) c in
    record { answer = from_store a.answer; left = record { nodes = a.left.nodes; names = s.names } }

-- and a name call the names alone
abbrev pub on_names : LentLists → Controller → NameCall → AfterCall
on_names l s c =
    let r = name_call l.names s.names c in
    record { answer = from_names r.answer; left = record { nodes = s.nodes; names = r.names } }

-- "Stopped by 24, 21 or 22, it keeps the names and nodes made before."
abbrev pub from_made : Made → AfterCall
from_made (made id s) = record { answer = stored id; left = s }
from_made (stopped number s) = record { answer = refused number; left = s }

-- a reading: 1, 11, 12 or 10 "all before any name or node is made", or the expression's names and nodes
abbrev pub on_text : LentLists → Controller → Verdict → AfterCall
on_text l s (refuses number) = record { answer = refused number; left = s }
on_text l s (denotes e) = from_made (make l e s)

unfoldable pub controller_call : LentLists → Controller → ControllerCall → AfterCall
unfolding call name_call make verdict
controller_call l s (building c) = on_store l s (store c)
controller_call l s (simplifying m i depth budget) = on_store l s (simplify m i depth budget)
controller_call l s (pruning i t) = on_store l s (prune i t)
controller_call l s (pruning_by_setting i n) = on_store l s (prune_by_setting i n)
controller_call l s (naming c) = on_names l s c
controller_call l s (reading text) = on_text l s (verdict text)

-- each call's answer
unfoldable pub controller_answers : LentLists → Controller → List ControllerCall → List ControllerAnswer
unfolding controller_call
controller_answers l s [] = []
controller_answers l s (c ∷ cs) = let a = controller_call l s c in a.answer ∷ controller_answers l a.left cs

-- what stands after each call
unfoldable pub controllers : LentLists → Controller → List ControllerCall → List Controller
unfolding controller_call
controllers l s [] = []
controllers l s (c ∷ cs) = let a = controller_call l s c in a.left ∷ controllers l a.left cs

-- a call of the store is one of the controller's
abbrev pub asked : Call → ControllerCall
asked (store c) = building c
asked (simplify m i depth budget) = simplifying m i depth budget
asked (prune i t) = pruning i t
asked (prune_by_setting i n) = pruning_by_setting i n

-- and its nodes stand beside any names
abbrev pub with_names : List (List ℕ) → State → Controller
with_names names s = record { nodes = s.nodes; names = names }

-- ---- the parts of the memory

-- each part is sound or not by itself
pub data Part : Type 0 where
  store_part : Part
  names_part : Part

-- the parts that a call takes: it is refused with 20 where one of these is not sound, and heeds no other
abbrev pub takes : ControllerCall → List Part
takes (building c) = store_part ∷ []
takes (simplifying m i depth budget) = store_part ∷ []
takes (pruning i t) = store_part ∷ []
takes (pruning_by_setting i n) = store_part ∷ []
takes (naming c) = names_part ∷ []
takes (reading text) = store_part ∷ names_part ∷ []

-- the parts that a call is not lent
abbrev pub untaken : ControllerCall → List Part
untaken (building c) = names_part ∷ []
untaken (simplifying m i depth budget) = names_part ∷ []
untaken (pruning i t) = names_part ∷ []
untaken (pruning_by_setting i n) = names_part ∷ []
untaken (naming c) = store_part ∷ []
untaken (reading text) = []

-- the parts that a call leaves as they are, whatever it answers: a name call changes no node, a store call no name; a reading may change
-- both
abbrev pub spares : ControllerCall → List Part
spares (building c) = names_part ∷ []
spares (simplifying m i depth budget) = names_part ∷ []
spares (pruning i t) = names_part ∷ []
spares (pruning_by_setting i n) = names_part ∷ []
spares (naming (intern_name name)) = store_part ∷ []
spares (naming (lookup_name name)) = store_part ∷ names_part ∷ []
spares (naming (name_of number)) = store_part ∷ names_part ∷ []
spares (reading text) = []

-- one part is the same before and after
abbrev pub SamePart : Controller → Controller → Part → Type 0
SamePart s s' store_part = s'.nodes ≡ s.nodes
SamePart s s' names_part = s'.names ≡ s.names
