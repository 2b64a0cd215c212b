-- The audit sorts names into buckets, so that a name is compared only with those of its bucket.
use Rattle.std.specs.Prelude.{ℕ, ◌+◌, ◌-◌, ◌*◌, ◌≤◌, ◌<◌, ◌≡◌, List, length, get_or}
use Rattle.definitions.specs.Names.{entry_bytes, most_names}
use Rattle.name_entries.specs.Entry.{entry_at}
use Rattle.name_entries.specs.Buckets.{bucket_of}

-- a place is the last of a bucket below a number, plus 1, or 0 where none is there
pub record Latest (bucket : ℕ → ℕ) (b below place : ℕ) : Type 0 where
  pub low : place ≤ below
  pub own : 0 < place → bucket (place - 1) ≡ b
  pub none : (j : ℕ) → place ≤ j → j < below → bucket j ≡ b → ⊥

abbrev pub bucket_at : List ℕ → ℕ → ℕ
bucket_at bytes i = bucket_of (entry_at bytes i)

-- the links of the names below a number: each leads to the one before it in its bucket
abbrev pub Links : List ℕ → ℕ → List ℕ → Type 0
Links bytes count before = (i : ℕ) → i < count → Latest (bucket_at bytes) (bucket_at bytes i) i (get_or before i 0)

-- what a walk along the links of a name's bucket needs
pub record Chained (bytes : List ℕ) (number : ℕ) (before : List ℕ) (latest : ℕ) : Type 0 where
  pub many : number < most_names
  pub fits : number * entry_bytes + entry_bytes ≤ length bytes
  pub size : length before ≡ most_names
  pub links : Links bytes number before
  pub first : Latest (bucket_at bytes) (bucket_at bytes number) number latest

-- an earlier entry is the same
pub record StandsBefore (bytes : List ℕ) (number : ℕ) : Type 0 where
  pub place : ℕ
  pub earlier : place < number
  pub same : entry_at bytes place ≡ entry_at bytes number
