-- What a request builds: on a sound store, and on any store, which is audited first.
use Rattle.std.specs.Prelude.{ℕ, ◌<◌, ◌≡◌, Bool, true, false, List, Result}
use Rattle.refusal.specs.declared.Refusal.{Refusal}
use Rattle.arena.specs.declared.DagArena.{DagArena}
use Rattle.kinds.specs.Kind as Kind
use Rattle.arena.specs.Node.{canonical}
use Rattle.definitions.specs.Node as N
use Rattle.definitions.specs.Refusals.{not_sound}
use Rattle.definitions.specs.Machine as M
use Rattle.store.specs.declared.Built.{Built}
use Rattle.building.specs.declared.Request.{Request}
use Rattle.store.specs.Held.{node_answer}
use Rattle.store.specs.View.{Kept}
use Rattle.store.specs.Memory.{Memory, memory, model, answer_of}

-- A request on a sound store: the plain machine's answer and nodes, and what every call keeps of the memory. A refusal changes nothing.
pub record BuildsSound (q : M.Request) (m : Memory) (a : M.Answer) (m' : Memory) : Type 0 where
  pub outcome : M.outcome a (model.view m').nodes ≡ M.store_call (model.lent m) (model.view m).nodes q
  pub kept : Kept m.words m.slots m.arena m'.words m'.slots m'.arena
  pub unchanged : (number : ℕ) → a ≡ M.refused number → m' ≡ m

-- A request on any store, which is audited: 20 and nothing changed where it is not sound.
pub data BuildsAudited (q : M.Request) (m : Memory) : M.Answer → Memory → Type 0 where
  unsound : (model.Sound m → ⊥) → BuildsAudited q m (M.refused not_sound) m
  sound : {a : M.Answer} {m' : Memory} → model.Sound m → BuildsSound q m a m' → BuildsAudited q m a m'

-- and of the lent lists
abbrev pub StoresSound : M.Request → List ℕ → List ℕ → DagArena → List ℕ → List ℕ → Built → Type 0
StoresSound q words slots arena words' slots' r =
    BuildsSound q (memory words slots arena) (answer_of r.answer) (memory words' slots' r.arena)

abbrev pub StoresAudited : M.Request → List ℕ → List ℕ → DagArena → List ℕ → List ℕ → Built → Type 0
StoresAudited q words slots arena words' slots' r =
    BuildsAudited q (memory words slots arena) (answer_of r.answer) (memory words' slots' r.arena)

-- a listed request on a sound store that holds its lists
abbrev pub BuildsRequest : Request → Memory → Result ℕ Refusal → Memory → Type 0
BuildsRequest q m answer m' = BuildsSound (M.request true (N.node q.kind q.payload q.flags q.operands.now)) m (answer_of (node_answer answer)) m'

-- A kind, payload and flags that unmarked nodes have, unless they are not listed or a NaN: a sound store's nodes have the child counts that
-- the plain machine lists.
pub record Asked (listed : Bool) (kind payload flags : ℕ) : Type 0 where
  pub counts : listed ≡ true → N.nan_constant kind payload ≡ false → (n : ℕ) → N.child_count_listed kind payload n ≡ Kind.listed kind payload n
  pub unmarked : listed ≡ true → flags < canonical
