-- The chain of a formula, and its terms kept and dropped at a threshold.
use Rattle.std.specs.Prelude.{ℕ, ◌≡◌, Bool, true, false, not, ◌&&◌, cond, List, [], ◌∷◌, ◌++◌, eqb, Float}
use Rattle.std.specs.Float.{binary64}
use Rattle.std.specs.Float.Ieee.{of_bits, lt}
use Rattle.definitions.specs.Node.{constant_kind, add_kind}
use Rattle.definitions.specs.Prune.{absolute, filter}
use Rattle.definitions.specs.Formula.{Tree, tree, Forest, nil, cons}

-- "the terms of an Add are those of its children, left to right, a shared one each time it is met, and any other node below is one term"
unfoldable mutual
  pub terms : Tree → List Tree
  terms (tree k p f c) = cond (eqb k add_kind) (terms_all c) (tree k p f c ∷ [])

  pub terms_all : Forest → List Tree
  terms_all nil = []
  terms_all (cons t c) = terms t ++ terms_all c

abbrev pub is_add : Tree → Bool
is_add (tree k p f c) = eqb k add_kind

-- what is no Add has no chain
abbrev pub chain_of : Tree → List Tree
chain_of t = cond (is_add t) (terms t) []

-- a constant "whose magnitude is below the threshold"
unfoldable pub below_threshold : Float → Tree → Bool
unfolding lt of_bits
below_threshold t (tree k p f c) = eqb k constant_kind && lt (absolute (of_bits binary64 p)) t

-- "The dropped terms are exactly the constants in the simplified chain whose magnitude is below the threshold, each as often as it stands
-- there"
abbrev pub dropped : Float → Tree → List Tree
dropped t s = filter (below_threshold t) (chain_of s)

-- "all others are kept, in order"
abbrev pub kept : Float → Tree → List Tree
kept t s = filter (λ x. not (below_threshold t x)) (chain_of s)

-- "Two or more kept terms are the terms of the prune's answer, in order; a single one is the answer itself; with none left it is 0.0."
abbrev pub Remains : List Tree → Tree → Type 0
Remains [] u = u ≡ tree constant_kind 0 0 nil
Remains (a ∷ []) u = u ≡ a
Remains (a ∷ b ∷ r) u = terms u ≡ a ∷ b ∷ r
