use Rattle.text_place.proofs.Bytes.{digits_on, digits_end, name_on, name_end, wanted_on, bits_on, ended_on}
use Rattle.text_place.proofs.advance.Goals as goal

pub returns-then-longer : goal.returns-then-longer
returns-then-longer c = digits_on _ _ _ _ _ _ c.in-Digits.is c.is_digit.ensures c.longer.ensures c.if-longer.true

pub returns-then-longer-2 : goal.returns-then-longer-2
returns-then-longer-2 c = name_on _ _ _ _ _ _ c.in-Name.is c.is_word.ensures c.longer-in-Name.ensures c.if-longer-2.true

pub returns-in-Wanted : goal.returns-in-Wanted
returns-in-Wanted c = wanted_on _ _ _ _ c.in-Wanted.is c.operand_byte.ensures

pub returns-else-longer : goal.returns-else-longer
returns-else-longer c = digits_end _ _ _ _ _ _ _ c.in-Digits.is c.is_digit.ensures c.longer.ensures c.if-longer.false c.byte_after.ensures

pub returns-else-longer-2 : goal.returns-else-longer-2
returns-else-longer-2 c = name_end _ _ _ _ _ _ _ c.in-Name.is c.is_word.ensures c.longer-in-Name.ensures c.if-longer-2.false c.byte_after-in-Name.ensures

pub returns-in-Bits : goal.returns-in-Bits
returns-in-Bits c = bits_on _ _ _ _ _ c.in-Bits.is c.bits_byte.ensures

pub returns-in-Ended : goal.returns-in-Ended
returns-in-Ended c = ended_on _ _ _ _ c.in-Ended.is c.byte_after-in-Ended.ensures
