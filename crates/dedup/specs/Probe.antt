-- What a search round the table finds.
use Rattle.std.specs.Prelude.{ℕ, ◌+◌, ◌%◌, ◌≤◌, ◌<◌, max, ◌≡◌, true, false, cond, List, [], ◌∷◌, length, get_or, ltb}
use Rattle.arena.specs.declared.node.DagNode.{DagNode}
use Rattle.arena.specs.Nodes.{AllWellFormed}
use Rattle.dedup.specs.declared.probing.Place.{Place}
use Rattle.dedup.specs.declared.probing.Place.TheVariants.{Here, Free, Nowhere}
use Rattle.slots.specs.Table.{TableSize, slot_from, InUse}
use Rattle.slots.specs.Held.{holds}

-- the greatest of child places, 0 if there is none
unfoldable pub greatest_child : List ℕ → ℕ
greatest_child [] = 0
greatest_child (child ∷ children) = max child (greatest_child children)

-- an id if it is above a key's greatest child, else 0
unfoldable pub compared_id : ℕ → ℕ → ℕ
compared_id id greatest = cond (ltb greatest id) id 0

-- the newest of so many nodes is a child of a key with these children
pub record OverNewest (count : ℕ) (children : List ℕ) : Type 0 where
  pub with_children : 0 < length children
  pub newest : greatest_child children + 1 ≡ count

-- what a search needs: a table, and the nodes that it compares
pub record Searchable (words : List ℕ) (known : ℕ) (slots : List ℕ) (size : ℕ) : Type 0 where
  pub doubled : TableSize size
  pub sized : size ≤ length slots
  pub formed : AllWellFormed words known

-- the slots so many places onward from the key's hash are in use by other nodes
pub record Passed (words : List ℕ) (known : ℕ) (slots : List ℕ) (size : ℕ) (key : DagNode) (far : ℕ) : Type 0 where
  pub used : InUse slots size key.hash far
  pub other : (d : ℕ) → d < far → holds words known key (slot_from slots size key.hash d) ≡ false

-- a search comes to a place
pub record Reaches (words : List ℕ) (known : ℕ) (slots : List ℕ) (size : ℕ) (key : DagNode) (place : ℕ) : Type 0 where
  pub far : ℕ
  pub near : far < size
  pub is : place ≡ (key.hash + far) % size
  pub passed : Passed words known slots size key far

-- the first slot that is empty or holds the key's node is empty
pub record Frees (words : List ℕ) (known : ℕ) (slots : List ℕ) (size : ℕ) (key : DagNode) (place : ℕ) : Type 0 where
  pub reached : Reaches words known slots size key place
  pub empty : get_or slots place 0 ≡ 0

-- or holds it
pub record Finds (words : List ℕ) (known : ℕ) (slots : List ℕ) (size : ℕ) (key : DagNode) (place : ℕ) : Type 0 where
  pub reached : Reaches words known slots size key place
  pub held : holds words known key (get_or slots place 0) ≡ true

-- where a search ends
unfoldable pub Probed : List ℕ → ℕ → List ℕ → ℕ → DagNode → Place → Type 0
Probed words known slots size key (Here place) = Finds words known slots size key place
Probed words known slots size key (Free place) = Frees words known slots size key place
Probed words known slots size key Nowhere = Passed words known slots size key size
