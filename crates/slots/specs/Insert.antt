-- Ids put into slots.
use Rattle.std.specs.Prelude.{ℕ, ◌+◌, ◌%◌, ◌≤◌, ◌<◌, ◌≡◌, List, length, get_or, set, drop}
use Rattle.definitions.specs.Intern.{capacity}
use Rattle.slots.specs.Table.{TableSize, Table, InUse}

-- some slot is empty
pub record Room (slots : List ℕ) (size : ℕ) : Type 0 where
  pub doubled : TableSize size
  pub sized : size ≤ length slots
  pub place : ℕ
  pub below : place < size
  pub empty : get_or slots place 0 ≡ 0

-- how many slots are looked at together for an empty one
abbrev pub free_window : ℕ
free_window = 16

-- so many slots of a window from a place on are in use, and the next is empty or past the window
pub record FirstEmpty (window : ℕ) (slots : List ℕ) (home first : ℕ) : Type 0 where
  pub within : first ≤ window
  pub used : (i : ℕ) → i < first → get_or slots (home + i) 0 ≡ 0 → ⊥
  pub empty : first < window → get_or slots (home + first) 0 ≡ 0

-- the first free place from a hash onward, round the end
pub record FirstFree (slots : List ℕ) (size hash place : ℕ) : Type 0 where
  pub far : ℕ
  pub near : far < size
  pub is : place ≡ (hash + far) % size
  pub empty : get_or slots place 0 ≡ 0
  pub used : InUse slots size hash far

-- an id in the first free place from its hash
pub record Taken (slots : List ℕ) (size hash id : ℕ) (slots' : List ℕ) : Type 0 where
  pub place : ℕ
  pub free : FirstFree slots size hash place
  pub after : slots' ≡ set slots place (id + 1)

-- so many nodes go into a table of this size
pub record FitsTable (count : ℕ) (slots : List ℕ) (size : ℕ) : Type 0 where
  pub doubled : TableSize size
  pub sized : size ≤ length slots
  pub load : count ≤ capacity size

-- the table of so many nodes, made anew at a size; slots past it stay
pub record Rehashed (hash : ℕ → ℕ) (count : ℕ) (slots : List ℕ) (size : ℕ) (slots' : List ℕ) : Type 0 where
  pub table : Table hash count slots' size
  pub past : drop size slots' ≡ drop size slots
