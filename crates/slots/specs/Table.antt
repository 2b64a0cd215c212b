-- The duplicate table of every sound store, over the hash of each id.
use Rattle.std.specs.Prelude.{ℕ, zero, suc, ◌+◌, ◌*◌, ◌%◌, ◌^◌, ◌≤◌, ◌<◌, ◌≡◌, true, false, List, length, get_or, set, take, replicate, eqb}
use Rattle.definitions.specs.Limits.{first_table_size}
use Rattle.definitions.specs.Intern.{capacity}
use Rattle.arena.specs.Node.{node_at}

-- a table size is a power of two from 64 up
pub record TableSize (size : ℕ) : Type 0 where
  pub doublings : ℕ
  pub is : size ≡ first_table_size * 2 ^ doublings

-- the slot that is met so many places onward from a hash, round the end
abbrev pub slot_from : List ℕ → ℕ → ℕ → ℕ → ℕ
slot_from slots size hash places = get_or slots ((hash + places) % size) 0

-- the slots so many places onward from a hash, round the end, are in use
abbrev pub InUse : List ℕ → ℕ → ℕ → ℕ → Type 0
InUse slots size hash far = (d : ℕ) → d < far → slot_from slots size hash d ≡ 0 → ⊥

-- ---- the table that the nodes give

-- the first place from one on, round the end, whose slot is empty, where one of so many is
unfoldable pub free_place : ℕ → List ℕ → ℕ → ℕ → ℕ
free_place zero slots size from = from % size
free_place (suc more) slots size from = elim (eqb (get_or slots (from % size) 0) 0) [ true ↦ from % size | false ↦ free_place more slots size (suc from) ]

-- the slots with an id at its first free place; a slot is id + 1, or 0
abbrev pub with_id : List ℕ → ℕ → ℕ → ℕ → List ℕ
with_id slots size hash id = set slots (free_place size slots size hash) (suc id)

-- what inserting all nodes by ascending id into an empty table of the present size gives, each at its first free place
unfoldable pub inserted : (ℕ → ℕ) → ℕ → ℕ → List ℕ
inserted hash size zero = replicate size 0
inserted hash size (suc id) = with_id (inserted hash size id) size (hash id) id

-- the table of so many nodes, in the first slots of the lent ones
pub record Table (hash : ℕ → ℕ) (count : ℕ) (slots : List ℕ) (size : ℕ) : Type 0 where
  pub doubled : TableSize size
  pub sized : size ≤ length slots
  pub load : count ≤ capacity size
  pub filled : take size slots ≡ inserted hash size count

-- ---- what holds of it, and the order

-- a value met from its hash modulo the table size onward, round the end, before an empty one; each slot before it holds a lower one
pub record Placed (slots : List ℕ) (size hash value : ℕ) : Type 0 where
  pub far : ℕ
  pub near : far < size
  pub here : slot_from slots size hash far ≡ value
  pub earlier : (d : ℕ) → d < far → (0 < slot_from slots size hash d) × (slot_from slots size hash d < value)

-- every slot is empty or holds one of so many ids
abbrev pub AllKnown : ℕ → List ℕ → ℕ → Type 0
AllKnown known slots size = (p : ℕ) → p < size → get_or slots p 0 ≤ known

-- each id has just one slot, met from its hash modulo the table size onward, round the end, before an empty one, and every other slot is 0
pub record InOrder (hash : ℕ → ℕ) (count : ℕ) (slots : List ℕ) (size : ℕ) : Type 0 where
  pub placed : (i : ℕ) → i < count → Placed slots size (hash i) (suc i)
  pub single : (p q : ℕ) → p < size → q < size → (get_or slots p 0 ≡ 0 → ⊥) → get_or slots p 0 ≡ get_or slots q 0 → p ≡ q
  pub only : AllKnown count slots size

-- the hash of each node of the store
abbrev pub hash_at : List ℕ → ℕ → ℕ
hash_at words i = (node_at words i).hash
