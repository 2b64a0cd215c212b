use mathlib.Core.Path.{sym, ◌∙◌}
use Rattle.text_place.proofs.Bytes.{wanted_blank, wanted_minus, wanted_bracket, wanted_digit, wanted_letter, wanted_bits, wanted_none}
use Rattle.text_place.proofs.operand_byte.Goals as goal

pub returns-then-byte-eq-BLANK : goal.returns-then-byte-eq-BLANK
returns-then-byte-eq-BLANK c = wanted_blank _ _ c.if-byte-eq-BLANK.true

pub returns-then-byte-eq-MINUS : goal.returns-then-byte-eq-MINUS
returns-then-byte-eq-MINUS c = wanted_minus _ _ c.if-byte-eq-BLANK.false c.if-byte-eq-MINUS.true

pub returns-then-byte-eq-OPEN : goal.returns-then-byte-eq-OPEN
returns-then-byte-eq-OPEN c = wanted_bracket _ _ c.if-byte-eq-BLANK.false c.if-byte-eq-MINUS.false c.if-byte-eq-OPEN.true

pub returns-then-is_digit : goal.returns-then-is_digit
returns-then-is_digit c = wanted_digit _ _ c.if-byte-eq-BLANK.false c.if-byte-eq-MINUS.false c.if-byte-eq-OPEN.false (sym c.is_digit.ensures ∙ c.if-is_digit.true)

pub returns-then-is_letter : goal.returns-then-is_letter
returns-then-is_letter c = wanted_letter _ _ c.if-byte-eq-BLANK.false c.if-byte-eq-MINUS.false c.if-byte-eq-OPEN.false (sym c.is_digit.ensures ∙ c.if-is_digit.false) (sym c.is_letter.ensures ∙ c.if-is_letter.true)

pub returns-then-byte-eq-HASH : goal.returns-then-byte-eq-HASH
returns-then-byte-eq-HASH c = wanted_bits _ _ c.if-byte-eq-BLANK.false c.if-byte-eq-MINUS.false c.if-byte-eq-OPEN.false (sym c.is_digit.ensures ∙ c.if-is_digit.false) (sym c.is_letter.ensures ∙ c.if-is_letter.false) c.if-byte-eq-HASH.true

pub returns : goal.returns
returns c = wanted_none _ _ c.if-byte-eq-BLANK.false c.if-byte-eq-MINUS.false c.if-byte-eq-OPEN.false (sym c.is_digit.ensures ∙ c.if-is_digit.false) (sym c.is_letter.ensures ∙ c.if-is_letter.false) c.if-byte-eq-HASH.false
