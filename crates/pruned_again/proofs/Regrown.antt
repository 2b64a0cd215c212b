-- What was built once is found again, at the same id, in every store that has grown from there.
use Prim.Native.Nat.{ℕ, zero, suc, ◌+◌, ◌/◌, ◌<◌}
use mathlib.Core.Path.{◌≡◌, refl, sym, ap, ◌∙◌}
use mathlib.Core.Bool.{Bool, true, false}
use mathlib.Core.List.{List, [], ◌∷◌, ◌++◌, append_assoc, append-nil}
use mathlib.Core.Option.{Option, none, some}
use lib.ListN.{length, take, drop, get_or-append}
use native.Mathlib.Omega.{arith}
use lib.Ieee.{binary64, to_bits}
use Rattle.definitions.specs.Node.{Node, node, at, blank, same}
use Rattle.definitions.specs.Intern.{find, Built, built, stopped, Lent, no_place, add_new, found_or_new, intern, then}
use Rattle.definitions.specs.Patterns.{intern_constant, intern_add, zero64}
use Rattle.definitions.specs.Prune.{balanced_add}
use Rattle.definitions.proofs.Intern.{eq_same, T_true}

-- ---- stores that only grow
pub record Ext (ns ms : List Node) : Type 0 where
  pub rest : List Node
  pub is : ms ≡ ns ++ rest

pub ext_refl : (ns : List Node) → Ext ns ns
ext_refl ns = record { rest = []; is = sym (append-nil ns) }

pub ext_trans : {ns ms os : List Node} → Ext ns ms → Ext ms os → Ext ns os
ext_trans {ns} p q = record { rest = p.rest ++ q.rest; is = q.is ∙ ap (λ l. l ++ q.rest) p.is ∙ append_assoc ns p.rest q.rest }

pub ext_at : (ns ms : List Node) → Ext ns ms → (i : ℕ) → i < length ns → at ms i ≡ at ns i
ext_at ns ms e i h = ap (λ l. at l i) e.is ∙ get_or-append ns e.rest blank i h

-- ---- interning again finds the node
find_more : (n : Node) (ns xs : List Node) (j i : ℕ) → find n ns j ≡ some i → find n (ns ++ xs) j ≡ some i
unfolding find
find_more n [] xs j i e = let z : ◌≡◌ {A = ℕ} 0 1 = cc in absurd (omega arith)
find_more n (m ∷ ns) xs j i e = go (same m n) e (λ q. find_more n ns xs (suc j) i q)
  where
    go : (b : Bool) → ◌≡◌ {A = Option ℕ} (elim b as (λ x. Option ℕ) [ true ↦ some j | false ↦ find n ns (suc j) ]) (some i) → (find n ns (suc j) ≡ some i → find n (ns ++ xs) (suc j) ≡ some i)
        → ◌≡◌ {A = Option ℕ} (elim b as (λ x. Option ℕ) [ true ↦ some j | false ↦ find n (ns ++ xs) (suc j) ]) (some i)
    go true q r = q
    go false q r = r q

find_new : (n : Node) (ns xs : List Node) (j : ℕ) → find n ns j ≡ none → find n (ns ++ n ∷ xs) j ≡ some (j + length ns)
unfolding find
find_new n [] xs j e = ap (λ (b : Bool). elim b as (λ x. Option ℕ) [ true ↦ some j | false ↦ find n xs (suc j) ]) (T_true (same n n) (eq_same n n refl refl refl refl)) ∙ ap some (omega arith)
find_new n (m ∷ ns) xs j e = go (same m n) e (λ q. find_new n ns xs (suc j) q)
  where
    go : (b : Bool) → ◌≡◌ {A = Option ℕ} (elim b as (λ x. Option ℕ) [ true ↦ some j | false ↦ find n ns (suc j) ]) none → (find n ns (suc j) ≡ none → find n (ns ++ n ∷ xs) (suc j) ≡ some (suc j + length ns))
        → ◌≡◌ {A = Option ℕ} (elim b as (λ x. Option ℕ) [ true ↦ some j | false ↦ find n (ns ++ n ∷ xs) (suc j) ]) (some (j + suc (length ns)))
    go true q r = let z : ◌≡◌ {A = ℕ} 0 1 = cc in absurd (omega arith)
    go false q r = r q ∙ ap some (omega arith)

-- what f built on ns it makes again, at the same id, on every store that has grown from there
abbrev pub Again : List Node → (List Node → Built) → Built → Type 0
Again ns f (built ms i) = Ext ns ms × ((os : List Node) → Ext ms os → f os ≡ built os i)
Again ns f (stopped ms r) = Unit {0}

pub intern_again : (l : Lent) (ns : List Node) (n : Node) → Again ns (λ os. intern l os n) (intern l ns n)
unfolding intern
intern_again l ns n = go (find n ns 0) refl
  where
    new : find n ns 0 ≡ none → (r : Option ℕ) → Again ns (λ os. intern l os n) (add_new ns n r)
    new e none = (record { rest = n ∷ []; is = refl }, λ os x. ap (found_or_new l os n) (ap (λ ms. find n ms 0) (x.is ∙ append_assoc ns (n ∷ []) x.rest) ∙ find_new n ns x.rest 0 e ∙ ap some (omega arith)))
    new e (some r) = tt

    go : (o : Option ℕ) → find n ns 0 ≡ o → Again ns (λ os. intern l os n) (found_or_new l ns n o)
    go none e = new e (no_place l (length ns))
    go (some i) e = (ext_refl ns, λ os x. ap (found_or_new l os n) (ap (λ ms. find n ms 0) x.is ∙ find_more n ns x.rest 0 i e))

then_again : (ns : List Node) (f : List Node → Built) (g : List Node → ℕ → Built) (m : Built) → Again ns f m
    → ((ms : List Node) (i : ℕ) → Again ms (λ os. g os i) (g ms i)) → Again ns (λ os. then (f os) g) (then m g)
then_again ns f g (stopped ms r) a h = tt
then_again ns f g (built ms i) a h = go (g ms i) (h ms i)
  where
    go : (m : Built) → Again ms (λ os. g os i) m → Again ns (λ os. then (f os) g) m
    go (stopped os r) b = tt
    go (built os j) b = (ext_trans a.0 b.0, λ qs x. ap (λ m. then m g) (a.1 qs (ext_trans b.0 x)) ∙ b.1 qs x)

pub balanced_again : (d : ℕ) (l : Lent) (ns : List Node) (ts : List ℕ) → Again ns (λ os. balanced_add d l os ts) (balanced_add d l ns ts)
unfolding balanced_add intern_constant intern_add to_bits
balanced_again zero l ns ts = intern_again l ns (node 1 (to_bits binary64 zero64) 0 [])
balanced_again (suc d) l ns [] = intern_again l ns (node 1 (to_bits binary64 zero64) 0 [])
balanced_again (suc d) l ns (a ∷ []) = (ext_refl ns, λ os x. refl)
balanced_again (suc d) l ns (a ∷ b ∷ r) =
    let ts = a ∷ b ∷ r in
    let h = length ts / 2 in
    then_again ns (λ os. balanced_add d l os (take h ts)) (λ ms x. then (balanced_add d l ms (drop h ts)) (λ os y. intern_add l os x y)) (balanced_add d l ns (take h ts)) (balanced_again d l ns (take h ts))
    (λ ms x. then_again ms (λ os. balanced_add d l os (drop h ts)) (λ os y. intern_add l os x y) (balanced_add d l ms (drop h ts)) (balanced_again d l ms (drop h ts))
    (λ os y. intern_again l os (node 2 0 3 (x ∷ y ∷ []))))
