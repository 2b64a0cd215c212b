-- What merging reads of a node: the constant among its two children.
use Rattle.std.specs.Prelude.{ℕ, ◌<◌, ◌≡◌, List, Float, Option, Some, None}
use Rattle.std.proofs.Math.Option as Math
use Rattle.std.proofs.Math.Option.{none, some}
use Rattle.std.specs.Float.{binary64}
use Rattle.std.specs.Float.Ieee.{of_bits}
use Rattle.definitions.specs.Node.{Node, at}
use Rattle.definitions.specs.Patterns.{constant_value, pair_of}
use Rattle.decisions.specs.declared.Side.{Side}
use Rattle.decisions.specs.declared.Side.TheVariants.{Left, Right}
use Rattle.merges.specs.declared.ConstantChild.{ConstantChild}

-- a pair of children of which one is a constant: its number, and the other child
pub data Split : Type 0 where
  left : Float → ℕ → Split
  right : Float → ℕ → Split
  neither : Split

-- the left one is taken first
abbrev pub split_by : ℕ → ℕ → Math.Option Float → Math.Option Float → Split
split_by p q (some d) y = left d q
split_by p q none (some d) = right d p
split_by p q none none = neither

abbrev pub split : List Node → Math.Option (ℕ × ℕ) → Split
split ns none = neither
split ns (some pq) = split_by pq.0 pq.1 (constant_value (at ns pq.0)) (constant_value (at ns pq.1))

abbrev pub on_side : Side → Float → ℕ → Split
on_side Left d o = left d o
on_side Right d o = right d o

abbrev pub plain_split : Option ConstantChild → Split
plain_split (Some c) = on_side c.side (of_bits binary64 c.bits) c.other
plain_split None = neither

abbrev pub OtherLow : ℕ → Option ConstantChild → Type 0
OtherLow count (Some c) = c.other < count
OtherLow count None = Unit {0}

-- the constant among the children of a node of a kind that has two; the other child is a node of the store
pub record SplitsConstant (ns : List Node) (count kind id : ℕ) (r : Option ConstantChild) : Type 0 where
  pub is : plain_split r ≡ split ns (pair_of kind (at ns id))
  pub low : OtherLow count r
