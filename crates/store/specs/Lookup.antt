-- What lookups and marks give: the plain node's parts.
use Rattle.std.specs.Prelude.{ℕ, ◌<◌, ◌≤◌, ◌≡◌, true, List, length, get_or, set}
use Rattle.definitions.specs.Node.{at}
use Rattle.definitions.specs.Walk.{standard, marked}
use Rattle.arena.specs.declared.DagArena.{DagArena}
use Rattle.arena.specs.Layout.{most_children}
use Rattle.arena.specs.Node.{canonical}
use Rattle.arena.specs.Nodes.{Nodes}
use Rattle.store.specs.Sound.{Sound}
use Rattle.store.specs.View.{nodes_in, Kept, listed}

-- an id of a store whose nodes are sound
pub record Lookup (words : List ℕ) (count id : ℕ) : Type 0 where
  pub below : id < count
  pub nodes : Nodes words count

-- the nodes with one more mark
pub record Marked (words : List ℕ) (count id : ℕ) (words' : List ℕ) : Type 0 where
  pub is : nodes_in words' count ≡ set (nodes_in words count) id (marked standard (at (nodes_in words count) id))
  pub kept : (slots : List ℕ) (arena : DagArena) → arena.count ≡ count → Sound words slots arena → Kept words slots arena words' slots arena

-- a node that may be interned: kind, payload and child count as listed, children of the store
pub record Fits (count kind payload flags : ℕ) (children : List ℕ) : Type 0 where
  pub listing : listed kind payload (length children) ≡ true
  pub unmarked : flags < canonical
  pub few : length children ≤ most_children
  pub lower : (j : ℕ) → j < length children → get_or children j 0 < count
