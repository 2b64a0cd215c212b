use mathlib.Core.Path.{ap}
use lib.Ieee.{binary64, to_bits}
use Rattle.text_language.specs.Grammar.{whole_bits}
use Rattle.text_program.proofs.Whole.{whole_finite}
use borrow.Author.Rules.{rules}
use Rattle.text_program.proofs.numbers.whole_bits.Goals as goal

pub float_to_bits-result : goal.float_to_bits-result
float_to_bits-result c = rw c.from.ensures (whole_finite _ (search rules))

pub returns : goal.returns
unfolding whole_bits
returns c = ap (to_bits binary64) c.from.ensures
