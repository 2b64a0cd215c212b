-- `listing_reader::number::hex_value` meets its contract.
use mathlib.Core.Path.{sym, ◌∙◌}
use mathlib.Core.Logic.{inl, inr}
use Rattle.listing_reader.proofs.Bytes.{digit_range}
use Rattle.listing_reader.proofs.Digits.{decimal_value, letter_value, other_value}
use Rattle.listing_reader.proofs.number.hex_value.Goals as goal

pub overflow_sub-byte : goal.overflow_sub-byte
overflow_sub-byte c = let r = digit_range _ (sym c.is_digit.ensures ∙ c.if-is_digit.true) in r.0

pub returns-then-is_digit : goal.returns-then-is_digit
returns-then-is_digit c =
    let r = digit_range _ (sym c.is_digit.ensures ∙ c.if-is_digit.true) in
    rw c.from.ensures (decimal_value _ r.0 r.1)

pub returns-then-byte-lt-LETTER_A : goal.returns-then-byte-lt-LETTER_A
returns-then-byte-lt-LETTER_A c = other_value _ (sym c.is_digit.ensures ∙ c.if-is_digit.false) (inl c.if-byte-lt-LETTER_A.true)

pub returns-then-byte-gt-LETTER_F : goal.returns-then-byte-gt-LETTER_F
returns-then-byte-gt-LETTER_F c = other_value _ (sym c.is_digit.ensures ∙ c.if-is_digit.false) (inr c.if-byte-gt-LETTER_F.true)

pub returns : goal.returns
returns c = rw c.from-2.ensures (letter_value _ c.if-byte-lt-LETTER_A.false c.if-byte-gt-LETTER_F.false)
