-- The memory that a reading is lent, and what the plain machine has in it.
use Rattle.std.specs.Prelude.{ℕ, ◌*◌, ◌≤◌, ◌≡◌, List, length, drop}
use Rattle.arena.specs.declared.DagArena.{DagArena}
use Rattle.definitions.specs.Names.{entry_bytes}
use Rattle.definitions.specs.Lists.{Controller, LentLists}
use Rattle.definitions.specs.Promise.{ControllerModel}
use Rattle.definitions.specs.Beside.{Beside, beside, controller_model}
use Rattle.store.specs.Memory.{memory, model, memory_after, Stays}
use Rattle.names.specs.Memory.{name_memory, name_model, names_after}

-- the lent words and slots with the store's counts, and beside them the lent name bytes with theirs
abbrev pub ControllerMemory : Type 0
ControllerMemory = Beside model name_model

abbrev pub controller_memory : List ℕ → List ℕ → DagArena → List ℕ → ℕ → ControllerMemory
controller_memory words slots arena entries names = beside model name_model (memory words slots arena) (name_memory entries names)

-- the controller of the promise of demand 3
abbrev pub lent_controller : ControllerModel
lent_controller = controller_model model name_model

-- the plain machine's nodes and names, and how much is lent for them
abbrev pub controller_of : ControllerMemory → Controller
controller_of m = lent_controller.view m

abbrev pub lent_of : ControllerMemory → LentLists
lent_of m = lent_controller.lent m

-- the memory that a plain controller gives over one with at most its nodes and names
abbrev pub controller_after : ControllerMemory → Controller → ControllerMemory
controller_after m s = beside model name_model (memory_after m.store s.nodes) (names_after m.names s.names)

-- the store and the name list are sound
pub record BothSound (m : ControllerMemory) : Type 0 where
  pub store : model.Sound m.store
  pub names : name_model.Sound m.names

-- what each part of a reading leaves: sound lists with at least the names and nodes, and what lies past those in use
pub record Extends (m m' : ControllerMemory) : Type 0 where
  pub store : Stays m.store m'.store
  pub names : name_model.Sound m'.names
  pub count : m.names.count ≤ m'.names.count
  pub long : length m'.names.bytes ≡ length m.names.bytes
  pub past : drop (m'.names.count * entry_bytes) m'.names.bytes ≡ drop (m'.names.count * entry_bytes) m.names.bytes
