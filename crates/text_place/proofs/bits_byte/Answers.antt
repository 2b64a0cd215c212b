use mathlib.Core.Path.{sym, ◌∙◌}
use Rattle.text_place.proofs.Bytes.{bits_whole, bits_more, bits_other}
use Rattle.text_place.proofs.bits_byte.Goals as goal

pub returns-then-length-ge-BITS_DIGITS : goal.returns-then-length-ge-BITS_DIGITS
returns-then-length-ge-BITS_DIGITS c = bits_whole _ _ _ _ c.if-length-ge-BITS_DIGITS.true c.byte_after.ensures

pub returns-then-is_hex : goal.returns-then-is_hex
returns-then-is_hex c = bits_more _ _ _ c.if-length-ge-BITS_DIGITS.false (sym c.is_hex.ensures ∙ c.if-is_hex.true)

pub returns : goal.returns
returns c = bits_other _ _ _ c.if-length-ge-BITS_DIGITS.false (sym c.is_hex.ensures ∙ c.if-is_hex.false)
