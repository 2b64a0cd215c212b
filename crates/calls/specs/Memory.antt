-- What each public call leaves of a controller's memory, and what a list of them leaves.
use Rattle.std.specs.Prelude.{ℕ, ◌≡◌, List, [], ◌∷◌, map, Ok}
use Rattle.arena.specs.declared.DagArena.{DagArena}
use Rattle.definitions.specs.Machine as Machine
use Rattle.definitions.specs.Names.{NameCall, NameAnswer}
use Rattle.definitions.specs.Controller.{ControllerCall, naming, reading, ControllerAnswer, from_store, from_names, asked, Part}
use Rattle.definitions.specs.Promise.{FreshController, Promise, All}
use Rattle.definitions.specs.Beside.{beside}
use Rattle.store.specs.declared.NodeAnswer.{NodeAnswer}
use Rattle.store.specs.Memory.{Memory, model, Leaves}
use Rattle.builder.specs.Opens.{FreshStore, fresh_memory, Opens}
use Rattle.names.specs.Calls.{NameListCalled}
use Rattle.names.specs.Memory.{NameMemory, name_memory, name_model}
use Rattle.text.specs.Memory.{ControllerMemory, controller_memory, lent_controller}
use Rattle.text.specs.Reading.{ReadsText}
use Rattle.text.specs.Calling.{answered}

-- What the contract of each public call says of the whole memory: a store, simplify or prune call is lent no names, and a name call no
-- store; a reading is lent both.
pub data CallLeaves : ControllerCall → ControllerMemory → ControllerAnswer → ControllerMemory → Type 0 where
  by_store : {c : Machine.Call} {s s' : Memory} {a : Machine.Answer} {n : NameMemory} → Leaves c s a s'
      → CallLeaves (asked c) (beside model name_model s n) (from_store a) (beside model name_model s' n)
  by_names : {c : NameCall} {s : Memory} {bytes bytes' : List ℕ} {count count' : ℕ} {a : NameAnswer} → NameListCalled bytes count c a bytes' count'
      → CallLeaves (naming c) (beside model name_model s (name_memory bytes count)) (from_names a)
      (beside model name_model s (name_memory bytes' count'))
  by_text : {text : List ℕ} {m m' : ControllerMemory} {a : NodeAnswer} → ReadsText text m a m' → CallLeaves (reading text) m (answered a) m'

-- "each other one the store as the call before left it, and nobody else writes it meanwhile", and so the name list
pub data LeavesInTurn : ControllerMemory → List ControllerCall → List ControllerAnswer → List ControllerMemory → Type 0 where
  done : {m : ControllerMemory} → LeavesInTurn m [] [] []
  next : {m m' : ControllerMemory} {c : ControllerCall} {cs : List ControllerCall} {a : ControllerAnswer} {al : List ControllerAnswer}
      {ms : List ControllerMemory} → CallLeaves c m a m' → LeavesInTurn m' cs al ms → LeavesInTurn m (c ∷ cs) (a ∷ al) (m' ∷ ms)

-- a fresh store, and no names in any bytes
abbrev pub fresh_controller_memory : List ℕ → List ℕ → List ℕ → ControllerMemory
fresh_controller_memory words slots bytes = beside model name_model (fresh_memory words slots) (name_memory bytes 0)

-- Whatever a caller does from a fresh memory with the constructors of nodes, simplify, the two prunes, the three name calls and readings
-- keeps the promise of what a list of calls leaves, and the store and the names are sound on the way.
abbrev pub KeepsPromise : Type 0
KeepsPromise = (m : ControllerMemory) (cs : List ControllerCall) (al : List ControllerAnswer) (ms : List ControllerMemory)
    → FreshController lent_controller m → LeavesInTurn m cs al ms
    → Promise (lent_controller.lent m) cs al (map lent_controller.view ms) × All (λ m. (p : Part) → lent_controller.Sound m p) ms

-- A store that `fresh` opened and a name list of count 0 in any bytes are fresh.
abbrev pub OpenedFresh : Type 0
OpenedFresh = (words slots slots' bytes : List ℕ) (r : FreshStore) (arena : DagArena) → Opens words slots r slots' → r ≡ Ok arena
    → FreshController lent_controller (controller_memory words slots' arena bytes 0)
