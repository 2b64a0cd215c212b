-- `listing_reader::number::digits_at` meets its contract. The loop's invariant: the digits passed are those of the value.
use Rattle.listing_reader.proofs.Digits.{digit_here, above_zero, digits_here}
use native.Mathlib.Omega.{arith}
use Rattle.listing_reader.proofs.Digits.{tested, digits_one, digits_more, digits_over, digits_end}
use Rattle.listing_reader.proofs.number.digits_at.Goals as goal

pub overflow_sub-byte_at : goal.overflow_sub-byte_at
overflow_sub-byte_at c = let e = c.byte_at.ensures in omega arith

pub overflow_add-next : goal.overflow_add-next
overflow_add-next c = let k = digits_here c.args.bytes.now c.args.at c.requires.0 in omega arith

pub loop-digit-init : goal.loop-digit-init
loop-digit-init c = rw c.from-value.ensures (digits_one _ _ _ c.byte_at.ensures c.requires.0 c.requires.1)

pub overflow_sub-byte_at-in-loop-digit : goal.overflow_sub-byte_at-in-loop-digit
overflow_sub-byte_at-in-loop-digit c = above_zero c.args.bytes.now c.loop-digit.next c.byte_at-in-loop-digit.ensures c.is_digit.ensures c.loop-digit-test.true c.byte_at-in-loop-digit-2.ensures

pub returns-then-digit-value : goal.returns-then-digit-value
returns-then-digit-value c = digits_over c.loop-digit.invariant _ c.byte_at-in-loop-digit-2.ensures (tested c.byte_at-in-loop-digit.ensures c.is_digit.ensures c.loop-digit-test.true) (omega arith)

pub overflow_mul-value : goal.overflow_mul-value
overflow_mul-value c = omega arith

pub overflow_add-value : goal.overflow_add-value
overflow_add-value c = omega arith

pub overflow_add-next-in-loop-digit : goal.overflow_add-next-in-loop-digit
overflow_add-next-in-loop-digit c = let k = digit_here c.args.bytes.now c.loop-digit.next c.byte_at-in-loop-digit.ensures c.is_digit.ensures c.loop-digit-test.true in omega arith

pub loop-digit-smaller : goal.loop-digit-smaller
loop-digit-smaller c = let k = digit_here c.args.bytes.now c.loop-digit.next c.byte_at-in-loop-digit.ensures c.is_digit.ensures c.loop-digit-test.true in omega arith

pub loop-digit-preserved : goal.loop-digit-preserved
loop-digit-preserved c = rw c.from-digit.ensures (digits_more c.loop-digit.invariant _ c.byte_at-in-loop-digit-2.ensures (tested c.byte_at-in-loop-digit.ensures c.is_digit.ensures c.loop-digit-test.true) (omega arith))

pub returns : goal.returns
returns c = digits_end c.loop-digit.invariant (tested c.byte_at-in-loop-digit.ensures c.is_digit.ensures c.loop-digit-test.false)
