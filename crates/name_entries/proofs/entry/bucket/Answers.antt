-- `name_entries::entry::bucket` meets its contract: the words read are those that the definition sums.
use mathlib.Core.Path.{refl}
use Rattle.name_entries.proofs.Bucketing.{words_bucket}
use Rattle.name_entries.proofs.entry.bucket.Goals as goal

pub returns : goal.returns
returns c = words_bucket _ _ _ _ _ _ _ c.from.ensures c.word-w0.ensures c.word-w1.ensures c.word-w2.ensures c.word-w3.ensures refl
