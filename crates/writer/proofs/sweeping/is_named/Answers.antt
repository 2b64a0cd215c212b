use Rattle.writer.proofs.Reached.{name_none, no_letter, wording_none, wording_on, wording_end}
use Rattle.writer.proofs.sweeping.is_named.Goals as goal

pub returns-then-named-symbol : goal.returns-then-named-symbol
returns-then-named-symbol c = name_none _ _ c.requires _ c.if-named-symbol.true

pub returns-then-not-is_letter : goal.returns-then-not-is_letter
returns-then-not-is_letter c = no_letter _ _ c.requires _ c.if-named-symbol.false c.is_letter.ensures c.if-not-is_letter.true

pub returns-then-not-is_word : goal.returns-then-not-is_word
returns-then-not-is_word c = wording_none c.loop-j.invariant c.loop-j-test.true c.is_word.ensures c.if-not-is_word.true

pub loop-j-preserved : goal.loop-j-preserved
loop-j-preserved c = wording_on c.loop-j.invariant c.loop-j-test.true c.is_word.ensures c.if-not-is_word.false

pub returns : goal.returns
returns c = wording_end c.loop-j.invariant c.loop-j-test.false
