-- `listing_reader::word::number_behind` meets its contract.
use native.Mathlib.Omega.{arith}
use Rattle.listing_reader.proofs.Words.{no_word, after_word}
use Rattle.listing_reader.proofs.word.number_behind.Goals as goal

pub returns-then-not-word_at : goal.returns-then-not-word_at
returns-then-not-word_at c = no_word _ _ _ _ _ c.word_at.ensures c.if-not-word_at.true

pub overflow_add-at : goal.overflow_add-at
overflow_add-at c = let k = c.word_at.ensures.within c.if-not-word_at.false in omega arith

pub returns : goal.returns
returns c = after_word _ _ _ _ _ c.word_at.ensures _ c.if-not-word_at.false c.spaced_decimal_at.ensures
