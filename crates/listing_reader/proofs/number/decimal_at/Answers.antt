-- `listing_reader::number::decimal_at` meets its contract.
use mathlib.Core.Path.{sym, ◌∙◌}
use native.Mathlib.Omega.{arith}
use Rattle.listing_reader.proofs.Bytes.{byte_here}
use Rattle.listing_reader.proofs.Digits.{tested, no_digit, digit_above, zero_alone, leading_zero}
use Rattle.listing_reader.proofs.number.decimal_at.Goals as goal

pub returns-then-not-is_digit : goal.returns-then-not-is_digit
returns-then-not-is_digit c = no_digit _ _ (tested c.byte_at-first.ensures c.is_digit.ensures c.if-not-is_digit.true)

pub digits_at-requires : goal.digits_at-requires
digits_at-requires c = digit_above c.byte_at-first.ensures c.is_digit.ensures c.if-not-is_digit.false c.if-first-ne-ZERO.true

pub overflow_add-at : goal.overflow_add-at
overflow_add-at c = let k = byte_here c.args.bytes.now c.args.at 48 (omega arith) (sym c.byte_at-first.ensures ∙ c.if-first-ne-ZERO.false) in omega arith

pub returns-then-is_digit : goal.returns-then-is_digit
returns-then-is_digit c = leading_zero _ _ (sym c.byte_at-first.ensures ∙ c.if-first-ne-ZERO.false) (tested c.byte_at.ensures c.is_digit-2.ensures c.if-is_digit.true)

pub overflow_add-result : goal.overflow_add-result
overflow_add-result c = let k = byte_here c.args.bytes.now c.args.at 48 (omega arith) (sym c.byte_at-first.ensures ∙ c.if-first-ne-ZERO.false) in omega arith

pub returns : goal.returns
returns c = zero_alone _ _ (sym c.byte_at-first.ensures ∙ c.if-first-ne-ZERO.false) (tested c.byte_at.ensures c.is_digit-2.ensures c.if-is_digit.false)
