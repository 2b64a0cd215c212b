-- The plain machine's nodes in the words of a store, and what a call answers and keeps over them.
use Rattle.std.specs.Prelude.{ℕ, zero, suc, ◌*◌, ◌/◌, ◌%◌, ◌^◌, ◌≤◌, ◌<◌, ◌≡◌, List, [], ◌∷◌, ◌++◌, length, take, drop, leb}
use Rattle.arena.specs.declared.node.DagNode.{DagNode}
use Rattle.arena.specs.declared.DagArena.{DagArena}
use Rattle.arena.specs.Layout.{node_words}
use Rattle.arena.specs.Node.{node_at, canonical}
unfoldable pub use Rattle.kinds.specs.Kind.{listed}
use Rattle.definitions.specs.Node as N
use Rattle.definitions.specs.Intern as I
use Rattle.store.specs.declared.Built.{Built}
use Rattle.store.specs.declared.NodeAnswer.{NodeAnswer}
use Rattle.store.specs.declared.NodeAnswer.TheVariants.{Id, Refused}
pub use Rattle.store.specs.Sound.{Sound}

-- a node of the memory, plainly: the mark stands apart from flags 1 and 2, and the children are the places in use
unfoldable pub plain_node : DagNode → N.Node
plain_node n = record {
  kind = n.kind;
  payload = n.payload;
  flags = n.flags % canonical;
  canonical = leb canonical n.flags;
  children = take n.arity n.children;
}

-- the memory as the plain machine's list, by rising id
unfoldable pub nodes_in : List ℕ → ℕ → List N.Node
nodes_in words zero = []
nodes_in words (suc count) = nodes_in words count ++ plain_node (node_at words count) ∷ []

-- how many nodes and slots are lent
abbrev pub lent : List ℕ → List ℕ → I.Lent
lent words slots = record { nodes = length words / node_words; slots = length slots }

-- The table doubles before an insertion by which the count would exceed 7/10 of the size, rounded down: the size after is the old one, doubled
-- as long as it holds fewer nodes than there are.
pub record Grown (size count size' : ℕ) : Type 0 where
  pub doublings : ℕ
  pub is : size' ≡ size * 2 ^ doublings
  pub needed : (d : ℕ) → d < doublings → I.capacity (size * 2 ^ d) < count

-- What every call keeps: the store is sound, the size as the count needs it, words and slots past the used ones stay, and so do the
-- children of each node.
pub record Kept (words slots : List ℕ) (arena : DagArena) (words' slots' : List ℕ) (arena' : DagArena) : Type 0 where
  pub whole : Sound words' slots' arena'
  pub count : arena.count ≤ arena'.count
  pub size : arena.size ≤ arena'.size
  pub grown : Grown arena.size arena'.count arena'.size
  pub long : length words' ≡ length words
  pub wide : length slots' ≡ length slots
  pub words_past : drop (arena'.count * node_words) words' ≡ drop (arena'.count * node_words) words
  pub slots_past : drop arena'.size slots' ≡ drop arena'.size slots
  pub children : (i : ℕ) → i < arena.count → (N.at (nodes_in words' arena'.count) i).children ≡ (N.at (nodes_in words arena.count) i).children

-- an answer over the memory after it, plainly
abbrev pub plain_built : NodeAnswer → List N.Node → I.Built
plain_built (Id i) ns = I.built ns i
plain_built (Refused k) ns = I.stopped ns k

-- an id that is answered is one of the store
abbrev pub Low : NodeAnswer → ℕ → Type 0
Low (Id i) count = i < count
Low (Refused k) count = Unit {0}

-- an answer and the memory after it are what the plain machine says
pub record Builds (words slots : List ℕ) (arena : DagArena) (plain : I.Built) (words' slots' : List ℕ) (r : Built) : Type 0 where
  pub answer : plain_built r.answer (nodes_in words' r.arena.count) ≡ plain
  pub kept : Kept words slots arena words' slots' r.arena
  pub low : Low r.answer r.arena.count
