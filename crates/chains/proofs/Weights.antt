-- A number that falls where a node of a list of ids gives way to its children: the sum of the ids' weights, each more than its children's.
use Prim.Native.Nat.{ℕ, zero, suc, ◌+◌, ◌*◌, ◌^◌, ◌<◌, ◌≤◌}
use mathlib.Core.Path.{◌≡◌}
use mathlib.Core.List.{List, [], ◌∷◌, ◌++◌}
use lib.ListN.{length}
use native.Mathlib.Omega.{arith}
use native.Mathlib.Nat.{pow-suc, one-le-pow, pow-le-pow_right, mul-le-mul_right, suc-mul}
use Rattle.definitions.specs.Limits.{most_children}
use Rattle.definitions.proofs.Stable.{Lower}

unfoldable pub weight : ℕ → ℕ
weight id = suc most_children ^ id

abbrev pub weights : List ℕ → ℕ
weights [] = 0
weights (i ∷ ids) = weight i + weights ids

pub weights_append : (a b : List ℕ) → weights (a ++ b) ≡ weights a + weights b
weights_append [] b = omega arith
weights_append (i ∷ a) b = omega (arith, weights_append a b)

pub weight_some : (id : ℕ) → 0 < weight id
unfolding weight
weight_some id = one-le-pow id (suc most_children) (omega arith)

weight_more : (i k : ℕ) → k ≤ i → weight k ≤ weight i
unfolding weight
weight_more i k h = pow-le-pow_right (omega arith) h

weight_suc : (i : ℕ) → weight (suc i) ≡ weight i * suc most_children
unfolding weight
weight_suc i = pow-suc (suc most_children) i

weights_most : (i : ℕ) (ids : List ℕ) → Lower (suc i) ids → weights ids ≤ length ids * weight i
weights_most i [] l = omega arith
weights_most i (k ∷ ids) l = let h = l.0 in omega (arith, weight_more i k (omega arith), weights_most i ids l.1, suc-mul (length ids) (weight i))

pub children_lighter : (i : ℕ) (ids : List ℕ) → Lower i ids → length ids ≤ most_children → weights ids < weight i
children_lighter zero [] l h = weight_some zero
children_lighter zero (k ∷ ids) l h = absurd (omega (arith, l.0))
children_lighter (suc i) ids l h = omega (arith, weights_most i ids l, mul-le-mul_right (weight i) h, weight_suc i, weight_some i)
