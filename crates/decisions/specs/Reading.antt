-- The constant that a node is.
use Rattle.std.specs.Prelude.{ℕ, Float, Option, Some, None}
use Rattle.std.proofs.Math.Option as Math
use Rattle.std.specs.Float.{binary64}
use Rattle.std.specs.Float.Ieee.{of_bits}

-- the number of a constant that was read
abbrev pub value_of : Option ℕ → Math.Option Float
value_of (Some b) = Math.some (of_bits binary64 b)
value_of None = Math.none
