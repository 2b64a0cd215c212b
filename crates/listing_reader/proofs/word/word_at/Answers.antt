-- `listing_reader::word::word_at` meets its contract.
use lib.ListN.{length}
use native.Mathlib.Omega.{arith}
use Rattle.std.proofs.lemmas.Slice.{between_to_end}
use Rattle.listing_reader.proofs.Words.{starts_short, starts_tested}
use Rattle.listing_reader.proofs.word.word_at.Goals as goal

pub returns-then-bytes-at : goal.returns-then-bytes-at
returns-then-bytes-at c = starts_short _ _ _ (let p = c.requires in omega arith)

pub returns : goal.returns
returns c = starts_tested _ _ _ _ _ (between_to_end c.args.bytes.now c.args.at (length c.args.bytes.now) (omega arith)) c.requires c.starts_with.ensures.value
