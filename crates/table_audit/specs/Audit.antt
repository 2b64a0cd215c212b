-- What the audit of the slots tests.
use Rattle.std.specs.Prelude.{ℕ, zero, suc, ◌-◌, ◌≤◌, ◌<◌, ◌≡◌, false, cond, List, length, get_or, eqb}
use Rattle.arena.specs.Node.{node_at, one}
use Rattle.slots.specs.Table.{TableSize, slot_from, hash_at}

-- how many of the first slots are in use
unfoldable pub used_slots : List ℕ → ℕ → ℕ
used_slots slots zero = 0
used_slots slots (suc n) = cond (eqb (get_or slots n 0) 0) (used_slots slots n) (suc (used_slots slots n))

-- a table's size, within the lent slots
pub record Fit (slots : List ℕ) (size : ℕ) : Type 0 where
  pub doubled : TableSize size
  pub sized : size ≤ length slots

-- a slot holds a lower id than a node's, of another node
pub record LowerOther (words : List ℕ) (id slot : ℕ) : Type 0 where
  pub used : 0 < slot
  pub lower : slot ≤ id
  pub other : one (node_at words (slot - 1)) (node_at words id) ≡ false

-- the slots so many places onward from a node's hash do
abbrev pub LowerBefore : List ℕ → List ℕ → ℕ → ℕ → ℕ → Type 0
LowerBefore words slots size id far = (d : ℕ) → d < far → LowerOther words id (slot_from slots size (hash_at words id) d)

-- the search for a node meets the slot of its own id, and before it only such slots
pub record MeetsOwn (words slots : List ℕ) (size id : ℕ) : Type 0 where
  pub far : ℕ
  pub near : far < size
  pub here : slot_from slots size (hash_at words id) far ≡ suc id
  pub before : LowerBefore words slots size id far

abbrev pub AllMeetOwn : List ℕ → ℕ → List ℕ → ℕ → Type 0
AllMeetOwn words count slots size = (id : ℕ) → id < count → MeetsOwn words slots size id
