-- What folding means on the bit patterns of binary64.
use Rattle.std.specs.Prelude.{ℕ, Bool, Float, Option, Some, None}
use Rattle.std.proofs.Math.Option as Math
use Rattle.std.specs.Float.{binary64}
use Rattle.std.specs.Float.Ieee.{of_bits, to_bits}
use Rattle.definitions.specs.Patterns as Patterns
use Rattle.definitions.specs.Prune as Prune

-- the value of a pattern: every NaN pattern is the one `nan`
abbrev pub value_of : ℕ → Float
value_of b = of_bits binary64 b

-- the pattern of a value
abbrev pub pattern_of : Float → ℕ
pattern_of x = to_bits binary64 x

-- the answer that stands for a result of folding
abbrev pub stored : Math.Option Float → Option ℕ
stored Math.none = None
stored (Math.some z) = Some (pattern_of z)

abbrev pub finite : Float → Bool
finite = Patterns.finite

-- |x|
abbrev pub magnitude : Float → Float
magnitude = Prune.absolute

abbrev pub zero : Float
zero = Patterns.zero64

abbrev pub one : Float
one = Patterns.one64
