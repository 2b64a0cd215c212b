-- A bucket from the words of an entry.
use Prim.Native.Nat.{ℕ, ◌+◌, ◌*◌, ◌%◌}
use mathlib.Core.Path.{◌≡◌, refl, ◌∙◌}
use mathlib.Core.List.{List}
use lib.ListN.{get_or}
use lib.Dec.{lit<}
use native.Mathlib.Nat.{mod-lt}
use Rattle.name_entries.specs.Entry.{IsWord}
use Rattle.name_entries.specs.Buckets.{buckets, bucket_of, IsBucket}

pub words_bucket : (e : List ℕ) (n w0 w1 w2 w3 r : ℕ) → n ≡ get_or e 0 0 → IsWord e 1 w0 → IsWord e 9 w1 → IsWord e 17 w2 → IsWord e 25 w3 → r ≡ (n + w0 % buckets + 3 * (w1 % buckets) + 5 * (w2 % buckets) + 7 * (w3 % buckets)) % buckets → IsBucket e r
unfolding bucket_of
words_bucket e n w0 w1 w2 w3 r b h0 h1 h2 h3 h = record {
  is = h ∙ rw (b, h0.is, h1.is, h2.is, h3.is) refl;
  below = rw h (mod-lt _ (lit< tt));
}
