-- The memory of a name list as calls have it, and the memory that names give.
use Rattle.std.specs.Prelude.{ℕ, ◌*◌, List, [], ◌∷◌, ◌++◌, length, drop}
use Rattle.definitions.specs.Names.{NameAnswer, entry_bytes}
use Rattle.definitions.specs.Beside.{NameModel}
use Rattle.name_entries.specs.Entry.{entry_of}
use Rattle.name_entries.specs.Sound.{SoundNames, names_of, lent_entries}

-- the lent bytes, with the count
pub record NameMemory : Type 0 where
  pub bytes : List ℕ
  pub count : ℕ

abbrev pub name_memory : List ℕ → ℕ → NameMemory
name_memory bytes count = record { bytes = bytes; count = count }

-- the name list of the promise of demand 3
abbrev pub name_model : NameModel
name_model = record {
  Memory = NameMemory;
  Sound = λ m. SoundNames m.bytes m.count;
  view = λ m. names_of m.bytes m.count;
  lent = λ m. lent_entries m.bytes;
}

-- ---- the bytes of names

-- the bytes of the names' entries, in order
unfoldable pub names_bytes : List (List ℕ) → List ℕ
names_bytes [] = []
names_bytes (name ∷ names) = entry_of name ++ names_bytes names

-- the memory that names give over one with at most as many: their entries in order, then what lay past them
abbrev pub names_after : NameMemory → List (List ℕ) → NameMemory
names_after m names = name_memory (names_bytes names ++ drop (length names * entry_bytes) m.bytes) (length names)

-- an answer, and the memory after it
pub record NamesLeft : Type 0 where
  pub answer : NameAnswer
  pub memory : NameMemory

abbrev pub names_left : NameAnswer → NameMemory → NamesLeft
names_left answer memory = record { answer = answer; memory = memory }
