-- Store calls: each answers the formula that it was given, and keeps every formula.
use Prim.Native.Nat.{ℕ, ◌<◌}
use mathlib.Core.Path.{◌≡◌, refl, sym, subst}
use mathlib.Core.Bool.{Bool, true, false, cond, ◌||◌, ◌&&◌}
use mathlib.Core.List.{List, [], ◌∷◌}
use lib.ListN.{length}
use native.Mathlib.Omega.{arith}
use borrow.Author.Tests.{ltb-true, leb-true, eqb-true}
use lib.Dec.{T, eqb, leb, ltb}
use lib.Ieee.Fits.{and_l, and_r}
use Rattle.definitions.specs.Limits.{most_operands}
use Rattle.definitions.specs.Node.{Node, nan_constant, child_count_listed}
use Rattle.definitions.specs.Intern.{Lent, Built, built, stopped, intern}
use Rattle.definitions.specs.Machine.{Answer, stored, simplified, pruned, refused, Outcome, outcome, Request, all_below, stored_as, store_call}
use Rattle.definitions.specs.Formula.{formula}
use Rattle.definitions.proofs.Stable.{Lower}
use Rattle.definitions.proofs.Intern.{Fit, Sound, Step, Result, stay, interned, over}
use Rattle.definitions.proofs.Prune.{T-is}

-- a call's nodes go on from those before it, and its answer is as said
pub record Done (ns : List Node) (A : List Node → Answer → Type 0) (a : Outcome) : Type 0 where
  pub step : Step ns a.nodes
  pub says : A a.nodes a.answer

lower_of : (n : ℕ) (ks : List ℕ) → T (all_below n ks) → Lower n ks
lower_of n [] t = tt
lower_of n (k ∷ ks) t = (ltb-true k n (T-is (ltb k n) (and_l (ltb k n) (all_below n ks) t)), lower_of n ks (and_r (ltb k n) (all_below n ks) t))

-- an Add or a Sub has a child
filled_add : (p n : ℕ) → T (child_count_listed 2 p n) → 0 < n
unfolding child_count_listed
filled_add p n t = leb-true 1 n (T-is (leb 1 n) (and_l (leb 1 n) (leb n most_operands) t))

filled_sub : (p n : ℕ) → T (child_count_listed 3 p n) → 0 < n
unfolding child_count_listed
filled_sub p n t = omega (arith, eqb-true n 2 (T-is (eqb n 2) t))

filled : (k p n : ℕ) → T (child_count_listed k p n) → T (eqb k 2 || eqb k 3) → 0 < n
filled k p n t = go (eqb k 2) (eqb k 3) refl refl
  where
    go : (x y : Bool) → eqb k 2 ≡ x → eqb k 3 ≡ y → T (x || y) → 0 < n
    go true y ex ey h = filled_add p n (subst (λ (j : ℕ). T (child_count_listed j p n)) (eqb-true k 2 ex) t)
    go false true ex ey h = filled_sub p n (subst (λ (j : ℕ). T (child_count_listed j p n)) (eqb-true k 3 ey) t)
    go false false ex ey h = absurd h

abbrev pub StoreSays : List Node → Node → List Node → Answer → Type 0
StoreSays ns n ms (stored i) = (i < length ms) × (formula ms i ≡ over ns n)
StoreSays ns n ms (simplified i b k) = Unit {0}
StoreSays ns n ms (pruned i k d) = Unit {0}
StoreSays ns n ms (refused r) = Unit {0}

pub builds : (l : Lent) (ns : List Node) (r : Request) → Sound ns → Done ns (StoreSays ns r.node) (store_call l ns r)
unfolding store_call
builds l ns r s = coded r.listed
  where
    n : Node
    n = r.node

    refusal : (k : ℕ) → Done ns (StoreSays ns n) (outcome (refused k) ns)
    refusal k = record { step = stay ns s; says = tt }

    close : (m : Built) → Result ns (λ ms i. formula ms i ≡ over ns n) m → Done ns (StoreSays ns n) (stored_as m)
    close (built ms i) x = record { step = x.0; says = (x.1, x.2) }
    close (stopped ms k) x = record { step = x; says = tt }

    fits : T (child_count_listed n.kind n.payload (length n.children)) → T (all_below (length ns) n.children) → nan_constant n.kind n.payload ≡ false → Fit (length ns) n
    fits t b e = record { low = lower_of (length ns) n.children b; filled = filled n.kind n.payload (length n.children) t; number = e }

    below : nan_constant n.kind n.payload ≡ false → T (child_count_listed n.kind n.payload (length n.children)) → (b : Bool) → all_below (length ns) n.children ≡ b
        → Done ns (StoreSays ns n) (cond b (stored_as (intern l ns n)) (outcome (refused 4) ns))
    below v t true e = close (intern l ns n) (interned l ns n s (fits t (subst T (sym e) tt) v))
    below v t false e = refusal 4

    counted : nan_constant n.kind n.payload ≡ false → (b : Bool) → child_count_listed n.kind n.payload (length n.children) ≡ b
        → Done ns (StoreSays ns n) (cond b (cond (all_below (length ns) n.children) (stored_as (intern l ns n)) (outcome (refused 4) ns)) (outcome (refused 6) ns))
    counted v true e = below v (subst T (sym e) tt) (all_below (length ns) n.children) refl
    counted v false e = refusal 6

    after_count : Outcome
    after_count = cond (child_count_listed n.kind n.payload (length n.children)) (cond (all_below (length ns) n.children) (stored_as (intern l ns n)) (outcome (refused 4) ns)) (outcome (refused 6) ns)

    a_number : (b : Bool) → nan_constant n.kind n.payload ≡ b → Done ns (StoreSays ns n) (cond b (outcome (refused 10) ns) after_count)
    a_number true e = refusal 10
    a_number false e = counted e (child_count_listed n.kind n.payload (length n.children)) refl

    coded : (b : Bool) → Done ns (StoreSays ns n) (cond b (cond (nan_constant n.kind n.payload) (outcome (refused 10) ns) after_count) (outcome (refused 5) ns))
    coded true = a_number (nan_constant n.kind n.payload) refl
    coded false = refusal 5
