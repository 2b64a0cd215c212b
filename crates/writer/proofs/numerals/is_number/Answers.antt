-- The bits of a number are those of a word of 64 bits that is no NaN's.
use Rattle.std.proofs.Common.{◌^◌, Bool, not, ◌&&◌, sym, ap, ◌∙◌, arith, lt-ltb}
use lib.Ieee.{binary64, nan_bits}
use Rattle.expression_text.specs.Proper.{number_bits}
use Rattle.writer.proofs.numerals.is_number.Goals as goal

pub returns : goal.returns
unfolding number_bits
returns c = ap not c.is_nan.ensures ∙ sym (ap (λ (x : Bool). x && not (nan_bits binary64 c.args.bits)) (lt-ltb c.args.bits (2 ^ 64) (omega arith)))
