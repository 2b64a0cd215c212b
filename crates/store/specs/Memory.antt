-- The memory of a store as calls have it, and what the contract of each store, simplify and prune call says.
use Rattle.std.specs.Prelude.{ℕ, ◌*◌, ◌≤◌, ◌≡◌, Bool, true, ◌||◌, not, List, ◌++◌, length, drop, eqb}
use Rattle.arena.specs.declared.DagArena.{DagArena}
use Rattle.arena.specs.Layout.{node_words, arena_of}
use Rattle.slots.specs.Table.{inserted}
use Rattle.definitions.specs.Limits.{most_doublings}
use Rattle.definitions.specs.Refusals.{not_sound, no_node_place, no_slot_place}
use Rattle.definitions.specs.Node as N
use Rattle.definitions.specs.Intern.{table_size_from}
use Rattle.definitions.specs.Machine as M
use Rattle.definitions.specs.Promise.{Model, Called}
use Rattle.store.specs.declared.NodeAnswer.{NodeAnswer}
use Rattle.store.specs.declared.NodeAnswer.TheVariants.{Id, Refused}
use Rattle.store.specs.Sound.{Sound}
use Rattle.store.specs.View.{nodes_in, lent, Grown}
use Rattle.store.specs.Stored.{nodes_words, hash_in}

-- the lent words and slots, with the counts
pub record Memory : Type 0 where
  pub words : List ℕ
  pub slots : List ℕ
  pub arena : DagArena

abbrev pub memory : List ℕ → List ℕ → DagArena → Memory
memory words slots arena = record { words = words; slots = slots; arena = arena }

-- the plain machine's nodes in it
abbrev pub nodes_of : Memory → List N.Node
nodes_of m = nodes_in m.words m.arena.count

-- the table "doubles before an insertion that would make the count exceed floor(size·7/10)"
abbrev pub size_for : Memory → List N.Node → ℕ
size_for m ns = table_size_from most_doublings m.arena.size (length ns)

-- the memory that nodes give over one with at most as many: their words, then the table of their ids by rising id, each followed by what
-- lay past. "Words and slots past the used ones stay."
abbrev pub memory_after : Memory → List N.Node → Memory
memory_after m ns =
    memory
    (nodes_words ns ++ drop (length ns * node_words) m.words)
    (inserted (hash_in ns) (size_for m ns) (length ns) ++ drop (size_for m ns) m.slots)
    (arena_of (length ns) (size_for m ns))

-- the store of the promise that `Model` states
abbrev pub model : Model
model = record {
  Memory = Memory;
  Sound = λ m. Sound m.words m.slots m.arena;
  view = λ m. M.state (nodes_in m.words m.arena.count);
  lent = λ m. lent m.words m.slots;
}

-- the plain machine's answer for each answer of a store call
abbrev pub answer_of : NodeAnswer → M.Answer
answer_of (Id id) = M.stored id
answer_of (Refused number) = M.refused number

-- "A refused build changes nothing; likewise every other refusal, .. save what follows. A walk or prune stopped by 21 or 22 keeps what it
-- interned and marked before."
abbrev pub keeps_interned : ℕ → Bool
keeps_interned number = eqb number no_node_place || eqb number no_slot_place

abbrev pub changes_nothing : M.Call → ℕ → Bool
changes_nothing (M.store c) number = true
changes_nothing (M.simplify mode id depth budget) number = not (keeps_interned number)
changes_nothing (M.prune id threshold) number = not (keeps_interned number)
changes_nothing (M.prune_by_setting id setting) number = not (keeps_interned number)

-- an answer, and the memory after it
pub record Left : Type 0 where
  pub answer : M.Answer
  pub memory : Memory

abbrev pub left : M.Answer → Memory → Left
left answer memory = record { answer = answer; memory = memory }

-- What a call leaves: 20 and the same memory where the store is not sound, else the plain machine's answer and the memory that its nodes
-- give.
abbrev pub left_by : (c : M.Call) (m : Memory) → Dec (model.Sound m) → Left
left_by c m (yes h) = left (M.call (model.lent m) (model.view m) c).answer (memory_after m (M.call (model.lent m) (model.view m) c).left.nodes)
left_by c m (no n) = left (M.refused not_sound) m

-- What each store, simplify and prune call says of the memory before it, its answer and the memory after it: one equation for both. The
-- memory has the plain machine's nodes, is sound again and as large as before (`Called`), no node is taken away, and a refusal changes
-- nothing.
pub record Leaves (c : M.Call) (m : Memory) (a : M.Answer) (m' : Memory) : Type 0 where
  pub equation : (d : Dec (model.Sound m)) → left a m' ≡ left_by c m d
  pub called : Called model c m a m'
  pub count : m.arena.count ≤ m'.arena.count
  pub unchanged : (number : ℕ) → a ≡ M.refused number → changes_nothing c number ≡ true → m' ≡ m

-- What any list of such calls leaves of a sound memory: a sound one with at least its nodes, the table as large as they need, and what lies
-- past the used words and slots. So it is the memory that its nodes give (`stays_is` of proofs/Staying).
pub record Stays (m m' : Memory) : Type 0 where
  pub sound : model.Sound m'
  pub count : m.arena.count ≤ m'.arena.count
  pub grown : Grown m.arena.size m'.arena.count m'.arena.size
  pub same_lent : model.lent m' ≡ model.lent m
  pub words_past : drop (m'.arena.count * node_words) m'.words ≡ drop (m'.arena.count * node_words) m.words
  pub slots_past : drop m'.arena.size m'.slots ≡ drop m'.arena.size m.slots

-- ---- two controllers

-- two memories hold the same nodes, marks included, in a table of the same size, and the same words and slots past those in use
pub record SameContent (m m' : Memory) : Type 0 where
  pub nodes : nodes_of m ≡ nodes_of m'
  pub size : m.arena.size ≡ m'.arena.size
  pub words_past : drop (m.arena.count * node_words) m.words ≡ drop (m'.arena.count * node_words) m'.words
  pub slots_past : drop m.arena.size m.slots ≡ drop m'.arena.size m'.slots

-- Two controllers compare memory after loading. Where both are sound, the same content is the same memory, word for word and slot for
-- slot.
abbrev pub TwoControllers : Type 0
TwoControllers = (m m' : Memory) → model.Sound m → model.Sound m' → SameContent m m' → m ≡ m'

-- one call on one sound memory has one answer and leaves one memory
abbrev pub OneMemory : Type 0
OneMemory = (c : M.Call) (m m' m'' : Memory) (a b : M.Answer) → model.Sound m → Leaves c m a m' → Leaves c m b m'' → (a ≡ b) × (m' ≡ m'')
