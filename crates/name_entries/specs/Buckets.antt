-- The bucket of an entry: the audit compares a name only with those of its bucket.
use Rattle.std.specs.Prelude.{ℕ, ◌+◌, ◌*◌, ◌%◌, ◌<◌, ◌≡◌, List, get_or}
use Rattle.name_entries.specs.Entry.{word_at}

-- the number of buckets: the greatest prime up to the most names
abbrev pub buckets : ℕ
buckets = 4093

-- the bucket of an entry: a sum over its words
unfoldable pub bucket_of : List ℕ → ℕ
bucket_of e = (get_or e 0 0 + word_at e 1 % buckets + 3 * (word_at e 9 % buckets) + 5 * (word_at e 17 % buckets) + 7 * (word_at e 25 % buckets)) % buckets

pub record IsBucket (entry : List ℕ) (r : ℕ) : Type 0 where
  pub is : r ≡ bucket_of entry
  pub below : r < buckets
