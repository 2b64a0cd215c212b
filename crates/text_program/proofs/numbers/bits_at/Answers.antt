use mathlib.Core.Path.{sym, ◌∙◌}
use native.Mathlib.Omega.{arith}
use Rattle.text_program.proofs.Constants.{number_past, number_whole, number_other, number_short, number_bits, whole_low}
use Rattle.text_program.proofs.numbers.bits_at.Goals as goal

pub returns-then-at-text : goal.returns-then-at-text
returns-then-at-text c = number_past c.args.text.now c.args.at c.if-at-text.true

pub overflow_cast-whole : goal.overflow_cast-whole
overflow_cast-whole c = let l = whole_low _ _ _ c.digits_at-whole.ensures in omega (arith, l)

pub returns-then-is_digit : goal.returns-then-is_digit
returns-then-is_digit c = number_whole c.args.text.now c.args.at c.if-at-text.false _ _ (sym c.is_digit.ensures ∙ c.if-is_digit.true) c.digits_at-whole.ensures c.whole_bits.ensures

pub returns-then-first-ne35 : goal.returns-then-first-ne35
returns-then-first-ne35 c = number_other c.args.text.now c.args.at c.if-at-text.false (sym c.is_digit.ensures ∙ c.if-is_digit.false) c.requires c.if-first-ne35.true

pub returns-then-bits-eq-BITS_DIGITS : goal.returns-then-bits-eq-BITS_DIGITS
returns-then-bits-eq-BITS_DIGITS c = number_bits c.args.text.now c.args.at c.if-at-text.false (sym c.is_digit.ensures ∙ c.if-is_digit.false) c.requires _ c.if-first-ne35.false c.digits_at-bits.ensures c.if-bits-eq-BITS_DIGITS.true

pub returns-else-bits-eq-BITS_DIGITS : goal.returns-else-bits-eq-BITS_DIGITS
returns-else-bits-eq-BITS_DIGITS c = number_short c.args.text.now c.args.at c.if-at-text.false (sym c.is_digit.ensures ∙ c.if-is_digit.false) c.requires _ c.if-first-ne35.false c.digits_at-bits.ensures c.if-bits-eq-BITS_DIGITS.false
