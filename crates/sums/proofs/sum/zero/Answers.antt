use mathlib.Core.Path.{◌≡◌, refl}
use mathlib.Core.Bool.{false}
use lib.Ieee.{binary64, to_bits, nan_bits}
use Rattle.definitions.specs.Patterns.{intern_constant}
use Rattle.store.proofs.Fitting.{constant_fits}
use Rattle.sums.proofs.sum.zero.Goals as goal

zero_number : nan_bits binary64 0 ≡ false
unfolding nan_bits
zero_number = refl

pub intern-requires : goal.intern-requires
intern-requires c = constant_fits _ _ zero_number

pub returns-clause-sums : goal.returns-clause-sums
unfolding intern_constant to_bits
returns-clause-sums c = c.intern.ensures.interns.builds
