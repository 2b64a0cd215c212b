-- Pruning: prune_additive_chain with balanced_add.
use Rattle.std.specs.Prelude.{ℕ, zero, suc, ◌-◌, ◌/◌, Bool, true, false, cond, List, [], ◌∷◌, ◌++◌, map, length, take, drop, eqb, Float}
use Rattle.std.proofs.Math.Option.{Option, none, some}
use Rattle.std.specs.Float.{nan, inf, fin}
use Rattle.std.specs.Float.Ieee.{le}
use Rattle.definitions.specs.Limits.{most_halvings}
use Rattle.definitions.specs.Node.{Node, at, add_kind}
use Rattle.definitions.specs.Intern.{Lent, Built, built, then}
use Rattle.definitions.specs.Patterns.{zero64, one64, constant_value, intern_constant, intern_add}

-- ---- the chain

abbrev pub concat : List (List ℕ) → List ℕ
concat [] = []
concat (x ∷ xs) = x ++ concat xs

-- "the chain is flattened left to right through Adds": the terms under i, over a descent of at most d nodes
unfoldable pub flatten : ℕ → List Node → ℕ → List ℕ
flatten zero ns i = i ∷ []
flatten (suc d) ns i = elim (eqb (at ns i).kind add_kind) [ true ↦ concat (map (flatten d ns) (at ns i).children) | false ↦ i ∷ [] ]

-- the terms under i: children are lower than their node, so a descent has at most i + 1 nodes
unfoldable pub chain : List Node → ℕ → List ℕ
unfolding flatten
chain ns i = flatten (suc i) ns i

-- ---- the terms kept

abbrev pub absolute : Float → Float
absolute nan = nan
absolute (inf s) = inf false
absolute (fin s m e) = fin false m e

-- "constant: |v|; other: 1.0"
abbrev pub magnitude : Option Float → Float
magnitude none = one64
magnitude (some x) = absolute x

-- "a term is kept if its magnitude is at least the threshold"
unfoldable pub keeps : List Node → Float → ℕ → Bool
unfolding constant_value le
keeps ns t i = le t (magnitude (constant_value (at ns i)))

abbrev pub filter : {A : Type 0} → (A → Bool) → List A → List A
filter p [] = []
filter p (x ∷ xs) = cond (p x) (x ∷ filter p xs) (filter p xs)

-- ---- their sum

-- "Then 0.0, the one term, or halves split at floor(n/2), left first", by at most d halvings
unfoldable pub balanced_add : ℕ → Lent → List Node → List ℕ → Built
unfolding intern_constant intern_add
balanced_add zero l ns ts = intern_constant l ns zero64
balanced_add (suc d) l ns [] = intern_constant l ns zero64
balanced_add (suc d) l ns (a ∷ []) = built ns a
balanced_add (suc d) l ns (a ∷ b ∷ r) =
    let ts = a ∷ b ∷ r in
    let h = length ts / 2 in
    then (balanced_add d l ns (take h ts)) (λ ms x. then (balanced_add d l ms (drop h ts)) (λ os y. intern_add l os x y))

-- the sum of at most 4,096 terms
unfoldable pub sum_of_kept : Lent → List Node → List ℕ → Built
unfolding balanced_add
sum_of_kept l ns ts = balanced_add most_halvings l ns ts
