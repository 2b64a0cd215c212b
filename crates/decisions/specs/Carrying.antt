-- What a replacement builds.
use Rattle.std.specs.Prelude.{ℕ, ◌<◌, ◌≡◌, true, false, List, [], ◌∷◌}
use Rattle.std.specs.Float.{binary64}
use Rattle.std.specs.Float.Ieee.{nan_bits}
use Rattle.arena.specs.declared.DagArena.{DagArena}
use Rattle.definitions.specs.Node.{Node, node, constant_kind}
use Rattle.definitions.specs.Intern as I
use Rattle.definitions.specs.Intern.{Lent, then, intern}
use Rattle.store.specs.View.{nodes_in, lent, Builds, listed}
use Rattle.store.specs.declared.Built.{Built}
use Rattle.decisions.specs.declared.Replacement.{Replacement}
use Rattle.decisions.specs.declared.Replacement.TheVariants.{Id, Constant, BesideConstant}
use Rattle.decisions.specs.declared.Side.{Side}
use Rattle.decisions.specs.declared.Side.TheVariants.{Left, Right}

-- a constant's id on its side of the other operand
abbrev pub ordered : Side → ℕ → ℕ → List ℕ
ordered Left i other = i ∷ other ∷ []
ordered Right i other = other ∷ i ∷ []

abbrev pub constant_of : ℕ → Lent → List Node → I.Built
constant_of b l ns = intern l ns (node constant_kind b 0 [])

-- the constructors `add` and `mul` "give flags 3"
abbrev pub operator_of : ℕ → List ℕ → Lent → List Node → I.Built
operator_of k c l ns = intern l ns (node k 0 3 c)

-- a constant, and then an operator over it and another operand, the constant on its side
abbrev pub beside_constant : Side → ℕ → ℕ → ℕ → Lent → List Node → I.Built
beside_constant side k b other l ns = then (constant_of b l ns) (λ ms i. operator_of k (ordered side i other) l ms)

abbrev pub carried : Replacement → Lent → List Node → I.Built
carried (Id i) l ns = I.built ns i
carried (Constant b) l ns = constant_of b l ns
carried (BesideConstant k b other side) l ns = beside_constant side k b other l ns

-- a store is left as building on its nodes leaves the plain machine
abbrev pub BuildsBy : (Lent → List Node → I.Built) → List ℕ → List ℕ → DagArena → List ℕ → List ℕ → Built → Type 0
BuildsBy plain w slots s w' slots' r = Builds w slots s (plain (lent w slots) (nodes_in w s.count)) w' slots' r

-- an operand of an operator that may be built
pub record Operand (count kind other : ℕ) : Type 0 where
  pub below : other < count
  pub listing : listed kind 0 2 ≡ true

pub record TwoOperands (count kind lhs rhs : ℕ) : Type 0 where
  pub left : lhs < count
  pub right : rhs < count
  pub listing : listed kind 0 2 ≡ true

-- the bits of a constant that may be built
abbrev pub NumberBits : ℕ → Type 0
NumberBits b = nan_bits binary64 b ≡ false

-- the ids of a replacement are those of the store, and its constant is no NaN
abbrev pub ReplacementLow : ℕ → Replacement → Type 0
ReplacementLow count (Id i) = i < count
ReplacementLow count (Constant b) = NumberBits b
ReplacementLow count (BesideConstant k b other side) = Operand count k other × NumberBits b
