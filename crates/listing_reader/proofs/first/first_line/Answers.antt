-- `listing_reader::first::first_line` meets its contract.
use mathlib.Core.Path.{refl}
use Rattle.listing_reader.proofs.FirstLines.{empty_first, ok_first, spent_first, last_first}
use Rattle.listing_reader.proofs.first.first_line.Goals as goal

pub returns-then-word_at : goal.returns-then-word_at
returns-then-word_at c = empty_first c.word_at.ensures c.if-word_at.true

pub returns-in-Some : goal.returns-in-Some
returns-in-Some c = ok_first refl c.in-Some.ensures

pub returns-in-Some-line_behind : goal.returns-in-Some-line_behind
returns-in-Some-line_behind c = spent_first refl c.in-Some-line_behind.ensures

pub returns : goal.returns
returns c = last_first c.word_at.ensures c.if-word_at.false c.line_behind.ensures c.in_default.is c.line_behind-2.ensures c.in_default-line_behind.is c.refused.ensures
