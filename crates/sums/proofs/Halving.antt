-- The balanced sum of terms, over the sums of its halves.
use Prim.Native.Nat.{ℕ, zero, suc, ◌/◌, ◌^◌, ◌≤◌}
use mathlib.Core.Path.{◌≡◌, refl, ap, ◌∙◌}
use mathlib.Core.List.{List, [], ◌∷◌}
use lib.ListN.{length, take, drop, length-take, length-drop}
use native.Mathlib.Omega.{arith}
use native.Mathlib.Nat.{pow-suc}
use Rattle.definitions.specs.Limits.{most_terms, most_halvings}
use Rattle.definitions.specs.Node.{Node}
use Rattle.definitions.specs.Intern.{Lent, Built, built, stopped, then}
use Rattle.definitions.specs.Patterns.{zero64, intern_constant, intern_add}
use Rattle.definitions.specs.Prune.{balanced_add, sum_of_kept}
use Rattle.definitions.proofs.Stopping.{StopsForPlace, intern_stops, then_stops}

then_same : (m : Built) (f g : List Node → ℕ → Built) → ((ns : List Node) (i : ℕ) → f ns i ≡ g ns i) → then m f ≡ then m g
then_same (built ns i) f g h = h ns i
then_same (stopped ns r) f g h = refl

-- a sum of halves, each summed by a function
abbrev halves : Lent → (List Node → List ℕ → Built) → List Node → List ℕ → Built
halves l f ns ts = then (f ns (take (length ts / 2) ts)) (λ ms x. then (f ms (drop (length ts / 2) ts)) (λ os y. intern_add l os x y))

halves_same : (l : Lent) (f g : List Node → List ℕ → Built) (ns : List Node) (ts : List ℕ)
    → ((ms : List Node) → f ms (take (length ts / 2) ts) ≡ g ms (take (length ts / 2) ts))
    → ((ms : List Node) → f ms (drop (length ts / 2) ts) ≡ g ms (drop (length ts / 2) ts)) → halves l f ns ts ≡ halves l g ns ts
halves_same l f g ns ts a b =
    ap (λ (m : Built). then m (λ ms x. then (f ms (drop (length ts / 2) ts)) (λ os y. intern_add l os x y))) (a ns)
    ∙ then_same (g ns (take (length ts / 2) ts)) _ _ (λ ms x. ap (λ (m : Built). then m (λ os y. intern_add l os x y)) (b ms))

-- more halvings than a list needs give the same
same_halvings : (d e : ℕ) (l : Lent) (ns : List Node) (ts : List ℕ) → length ts ≤ 2 ^ d → length ts ≤ 2 ^ e → balanced_add (suc d) l ns ts ≡ balanced_add (suc e) l ns ts
unfolding balanced_add
same_halvings zero e l ns [] h k = refl
same_halvings zero e l ns (a ∷ []) h k = refl
same_halvings zero e l ns (a ∷ b ∷ r) h k = absurd (omega arith)
same_halvings (suc d) e l ns [] h k = refl
same_halvings (suc d) e l ns (a ∷ []) h k = refl
same_halvings (suc d) zero l ns (a ∷ b ∷ r) h k = absurd (omega arith)
same_halvings (suc d) (suc e) l ns (a ∷ b ∷ r) h k =
    let ts = a ∷ b ∷ r in
    let p = pow-suc 2 d in
    let q = pow-suc 2 e in
    let t = length-take (length ts / 2) ts in
    let u = length-drop (length ts / 2) ts in
    halves_same l (balanced_add (suc d) l) (balanced_add (suc e) l) ns ts
    (λ ms. same_halvings d e l ms (take (length ts / 2) ts) (omega arith) (omega arith))
    (λ ms. same_halvings d e l ms (drop (length ts / 2) ts) (omega arith) (omega arith))

pub sum_of_halves : (l : Lent) (ns : List Node) (ts : List ℕ) → 2 ≤ length ts → length ts ≤ most_terms
    → sum_of_kept l ns ts ≡ then (sum_of_kept l ns (take (length ts / 2) ts)) (λ ms x. then (sum_of_kept l ms (drop (length ts / 2) ts)) (λ os y. intern_add l os x y))
unfolding sum_of_kept balanced_add
sum_of_halves l ns [] h k = absurd (omega arith)
sum_of_halves l ns (a ∷ []) h k = absurd (omega arith)
sum_of_halves l ns (a ∷ b ∷ r) h k =
    let ts = a ∷ b ∷ r in
    let t = length-take (length ts / 2) ts in
    let u = length-drop (length ts / 2) ts in
    halves_same l (balanced_add 12 l) (balanced_add 13 l) ns ts
    (λ ms. same_halvings 11 12 l ms (take (length ts / 2) ts) (omega arith) (omega arith))
    (λ ms. same_halvings 11 12 l ms (drop (length ts / 2) ts) (omega arith) (omega arith))

pub sum_of_none : (l : Lent) (ns : List Node) → sum_of_kept l ns [] ≡ intern_constant l ns zero64
unfolding sum_of_kept balanced_add
sum_of_none l ns = refl

pub sum_of_one : (l : Lent) (ns : List Node) (a : ℕ) → sum_of_kept l ns (a ∷ []) ≡ built ns a
unfolding sum_of_kept balanced_add
sum_of_one l ns a = refl

-- ---- a sum stops by 21 or 22 alone
balanced_stops : (d : ℕ) (l : Lent) (ns : List Node) (ts : List ℕ) → StopsForPlace (balanced_add d l ns ts)
unfolding balanced_add intern_constant intern_add
balanced_stops zero l ns ts = intern_stops l ns _
balanced_stops (suc d) l ns [] = intern_stops l ns _
balanced_stops (suc d) l ns (a ∷ []) = tt
balanced_stops (suc d) l ns (a ∷ b ∷ r) =
    let ts = a ∷ b ∷ r in
    then_stops (balanced_add d l ns (take (length ts / 2) ts)) _ (balanced_stops d l ns (take (length ts / 2) ts))
    (λ ms x. then_stops (balanced_add d l ms (drop (length ts / 2) ts)) _ (balanced_stops d l ms (drop (length ts / 2) ts)) (λ os y. intern_stops l os _))

pub sum_stops : (l : Lent) (ns : List Node) (ts : List ℕ) → StopsForPlace (sum_of_kept l ns ts)
unfolding sum_of_kept
sum_stops l ns ts = balanced_stops most_halvings l ns ts
