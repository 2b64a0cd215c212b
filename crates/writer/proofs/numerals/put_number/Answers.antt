use Rattle.writer.proofs.InFront.{number_whole, number_hex}
use Rattle.writer.proofs.numerals.put_number.Goals as goal

pub returns-in-Some : goal.returns-in-Some
returns-in-Some c = number_whole _ _ _ _ _ _ c.in-Some.ensures c.put_decimal.ensures

pub returns-in-None : goal.returns-in-None
returns-in-None c = number_hex _ _ _ _ _ c.in-None.ensures c.put_hex.ensures
