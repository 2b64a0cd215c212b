-- One entry of the lent list (01, "symbol registry and settings"): "length byte, then 32 bytes, unused ones 0".
use Rattle.std.specs.Prelude.{ℕ, ◌+◌, ◌-◌, ◌*◌, ◌≤◌, ◌<◌, ◌≡◌, List, ◌∷◌, ◌++◌, length, get_or, take, drop, replicate}
use Rattle.definitions.specs.Names.{shortest_name, longest_name, entry_bytes}

-- the entry of a number in the lent bytes
abbrev pub entry_at : List ℕ → ℕ → List ℕ
entry_at bytes number = take entry_bytes (drop (number * entry_bytes) bytes)

-- the name that an entry holds
abbrev pub name_in : List ℕ → List ℕ
name_in entry = take (get_or entry 0 0) (drop 1 entry)

-- the entry of a name
abbrev pub entry_of : List ℕ → List ℕ
entry_of name = length name ∷ (name ++ replicate (longest_name - length name) 0)

-- a length from 1 to 32, and the unused bytes 0
pub record SoundEntry (entry : List ℕ) : Type 0 where
  pub shortest : shortest_name ≤ get_or entry 0 0
  pub longest : get_or entry 0 0 ≤ longest_name
  pub unused : (j : ℕ) → get_or entry 0 0 < j → j < entry_bytes → get_or entry j 0 ≡ 0

-- a part of the lent bytes is the entry of a number
pub record IsEntry (bytes : List ℕ) (number : ℕ) (entry : List ℕ) : Type 0 where
  pub is : entry ≡ entry_at bytes number
  pub size : length entry ≡ entry_bytes

-- 33 bytes are the entry of a name
pub record IsEntryOf (name entry : List ℕ) : Type 0 where
  pub is : entry ≡ entry_of name
  pub size : length entry ≡ entry_bytes

-- the bytes with an entry written at a number, and every other byte as it was
abbrev pub put_entry : List ℕ → ℕ → List ℕ → List ℕ
put_entry bytes number entry = take (number * entry_bytes) bytes ++ entry ++ drop (number * entry_bytes + entry_bytes) bytes

-- a byte as a number
abbrev pub byte_values : ℕ
byte_values = 256

pub record IsByte (byte r : ℕ) : Type 0 where
  pub is : r ≡ byte
  pub small : r < byte_values

-- a name is compared by its four words of eight bytes
abbrev pub word_bytes : ℕ
word_bytes = 8

abbrev pub name_words : ℕ
name_words = 4

-- four bytes as one number, the first byte lowest
abbrev pub half_word_bytes : ℕ
half_word_bytes = 4

abbrev pub half_word_values : ℕ
half_word_values = byte_values * (byte_values * (byte_values * byte_values))

abbrev pub half_word_at : List ℕ → ℕ → ℕ
half_word_at l i = get_or l i 0 + byte_values * (get_or l (i + 1) 0 + byte_values * (get_or l (i + 2) 0 + byte_values * get_or l (i + 3) 0))

pub record IsHalfWord (l : List ℕ) (i r : ℕ) : Type 0 where
  pub is : r ≡ half_word_at l i
  pub small : r < half_word_values

-- eight bytes as one number, the first byte lowest
abbrev pub word_at : List ℕ → ℕ → ℕ
word_at l i = half_word_at l i + half_word_values * half_word_at l (i + half_word_bytes)

pub record IsWord (l : List ℕ) (i r : ℕ) : Type 0 where
  pub is : r ≡ word_at l i
