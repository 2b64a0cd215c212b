-- The child places of a node.
use Rattle.std.specs.Prelude.{ℕ, ◌≤◌, ◌<◌, ◌≡◌, List, length, get_or}

-- every id of a list is below one
abbrev pub AllBelow : ℕ → List ℕ → Type 0
AllBelow id children = (j : ℕ) → j < length children → get_or children j 0 < id

-- every word of a list is 0
abbrev pub AllZero : List ℕ → Type 0
AllZero words = (j : ℕ) → get_or words j 0 ≡ 0

-- children have lower ids than their node, and unused places are 0
pub record LowerChildren (id arity : ℕ) (children : List ℕ) : Type 0 where
  pub lower : (j : ℕ) → j < arity → get_or children j 0 < id
  pub unused : (j : ℕ) → arity ≤ j → get_or children j 0 ≡ 0
