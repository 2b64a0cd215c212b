-- The constants 0.0 and 1.0, built from their bits.
use Prim.Native.Nat.{ℕ}
use mathlib.Core.Path.{◌≡◌, refl}
use mathlib.Core.List.{List, []}
use lib.Ieee.{to_bits, nan_bits}
use Rattle.definitions.specs.Node.{Node, node, constant_kind}
use Rattle.definitions.specs.Intern.{Lent, intern}
use Rattle.definitions.specs.Patterns.{zero64, one64, intern_constant}
use Rattle.decisions.specs.Carrying.{NumberBits}

abbrev one_bits : ℕ
one_bits = 0x3ff0_0000_0000_0000

pub zero_built : (l : Lent) (ns : List Node) → intern l ns (node constant_kind 0 0 []) ≡ intern_constant l ns zero64
unfolding intern_constant to_bits
zero_built l ns = refl

pub one_built : (l : Lent) (ns : List Node) → intern l ns (node constant_kind one_bits 0 []) ≡ intern_constant l ns one64
unfolding intern_constant to_bits
one_built l ns = refl

pub zero_number : NumberBits 0
unfolding nan_bits
zero_number = refl

pub one_number : NumberBits one_bits
unfolding nan_bits
one_number = refl

pub ruleset constants = (zero_built, one_built, zero_number, one_number)
