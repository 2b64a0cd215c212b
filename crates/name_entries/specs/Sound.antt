-- What every sound name list has, and the names that it holds.
use Rattle.std.specs.Prelude.{ℕ, zero, suc, ◌/◌, ◌≤◌, ◌<◌, ◌≡◌, List, [], ◌∷◌, ◌++◌, length}
use Rattle.definitions.specs.Names.{entry_bytes, most_names}
use Rattle.name_entries.specs.Entry.{entry_at, name_in, SoundEntry}

abbrev pub name_at : List ℕ → ℕ → List ℕ
name_at bytes number = name_in (entry_at bytes number)

-- the names of the first entries, by their numbers
unfoldable pub names_of : List ℕ → ℕ → List (List ℕ)
names_of bytes zero = []
names_of bytes (suc n) = names_of bytes n ++ name_at bytes n ∷ []

-- as many entries as fit in the lent bytes
abbrev pub lent_entries : List ℕ → ℕ
lent_entries bytes = length bytes / entry_bytes

abbrev pub EntriesSound : List ℕ → ℕ → Type 0
EntriesSound bytes count = (i : ℕ) → i < count → SoundEntry (entry_at bytes i)

-- "no name twice"
abbrev pub NoNameTwice : List ℕ → ℕ → Type 0
NoNameTwice bytes count = (i j : ℕ) → i < count → j < count → name_at bytes i ≡ name_at bytes j → i ≡ j

-- refusal 20 of a name list: "not sound as above, or a name count over the lent entries or over 4,096"
pub record SoundNames (bytes : List ℕ) (count : ℕ) : Type 0 where
  pub many : count ≤ most_names
  pub lent : count ≤ lent_entries bytes
  pub entries : EntriesSound bytes count
  pub once : NoNameTwice bytes count
