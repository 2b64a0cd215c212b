-- `listing_reader::word::line_behind` meets its contract.
use mathlib.Core.Path.{refl}
use Rattle.listing_reader.proofs.Words.{no_feed, line_found}
use Rattle.listing_reader.proofs.FirstLines.{word_unique}
use Rattle.listing_reader.proofs.word.line_behind.Goals as goal

pub returns-then-byte_at-ne-LINE_FEED : goal.returns-then-byte_at-ne-LINE_FEED
returns-then-byte_at-ne-LINE_FEED c = no_feed _ (word_unique c.args.word.now) _ _ c.in_ok-number.ensures refl c.byte_at.ensures c.if-byte_at-ne-LINE_FEED.true

pub returns : goal.returns
returns c = line_found _ (word_unique c.args.word.now) _ _ c.in_ok-number.ensures refl c.byte_at.ensures c.if-byte_at-ne-LINE_FEED.false
