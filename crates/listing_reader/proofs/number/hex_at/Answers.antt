-- `listing_reader::number::hex_at` meets its contract. The loop's invariant: the digits passed are those of the value.
use native.Mathlib.Omega.{arith}
use Rattle.listing_reader.proofs.Digits.{hex_start, hex_here, hex_next, no_hex, hex_end, fits_more}
use Rattle.listing_reader.proofs.number.hex_at.Goals as goal

pub loop-read-init : goal.loop-read-init
loop-read-init c = hex_start _ _

pub returns-then-digit-eq-NO_DIGIT : goal.returns-then-digit-eq-NO_DIGIT
returns-then-digit-eq-NO_DIGIT c = no_hex c.loop-read.invariant _ _ c.byte_at.ensures c.hex_value-digit.ensures c.if-digit-eq-NO_DIGIT.true (omega arith)

pub overflow_mul-value : goal.overflow_mul-value
overflow_mul-value c = let h = fits_more c.loop-read.invariant (omega arith) in omega arith

pub overflow_add-value : goal.overflow_add-value
overflow_add-value c = let h = fits_more c.loop-read.invariant (omega arith) in let m = c.hex_value-digit.ensures.most in let n = c.if-digit-eq-NO_DIGIT.false in omega arith

pub overflow_add-next : goal.overflow_add-next
overflow_add-next c = let k = hex_here c.loop-read.invariant _ _ c.byte_at.ensures c.hex_value-digit.ensures c.if-digit-eq-NO_DIGIT.false in omega arith

pub loop-read-preserved : goal.loop-read-preserved
loop-read-preserved c = hex_next c.loop-read.invariant _ _ c.byte_at.ensures c.hex_value-digit.ensures c.if-digit-eq-NO_DIGIT.false (omega arith)

pub returns : goal.returns
returns c = hex_end c.loop-read.invariant (omega arith)
