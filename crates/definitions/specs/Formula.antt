-- The formula of an id: "the tree of nodes under it, marks aside".
use Rattle.std.specs.Prelude.{ℕ, List, [], ◌∷◌, ◌++◌, get_or}
use Rattle.definitions.specs.Node.{Node}

-- kind, payload and flags over the formulas of the children
mutual
  pub data Tree : Type 0 where
    tree : ℕ → ℕ → ℕ → Forest → Tree

  pub data Forest : Type 0 where
    nil : Forest
    cons : Tree → Forest → Forest

abbrev pub forest : (ℕ → Tree) → List ℕ → Forest
forest f [] = nil
forest f (k ∷ ks) = cons (f k) (forest f ks)

-- a kind that no node has, and what stands for the formula of an id that no node has
abbrev no_kind : ℕ
no_kind = 255

abbrev pub no_formula : Tree
no_formula = tree no_kind 0 0 nil

abbrev pub formula_at : List Tree → ℕ → Tree
formula_at ts i = get_or ts i no_formula

abbrev pub formula_of : List Tree → Node → Tree
formula_of ts n = tree n.kind n.payload n.flags (forest (formula_at ts) n.children)

-- the formulas of the nodes by rising id, each over those of the nodes before it
unfoldable pub formulas : List Tree → List Node → List Tree
formulas ts [] = ts
formulas ts (n ∷ ns) = formulas (ts ++ formula_of ts n ∷ []) ns

unfoldable pub formula : List Node → ℕ → Tree
unfolding formulas
formula ns i = formula_at (formulas [] ns) i
