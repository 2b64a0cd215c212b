-- That the coefficient of a node that is no constant is 1.0: the bits are those of the plain machine's 1.0.
use mathlib.Core.Path.{◌≡◌, refl}
use lib.Ieee.{binary64, of_bits}
use Rattle.definitions.specs.Patterns.{one64}
use Rattle.arena.specs.Node.{bits_of_one}

pub bits_of_one_lem : of_bits binary64 bits_of_one ≡ one64
unfolding of_bits
bits_of_one_lem = refl
