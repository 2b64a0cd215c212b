-- The id that a store call answers is one of the nodes after it.
use Prim.Native.Nat.{ℕ, suc, ◌+◌, ◌<◌}
use mathlib.Core.Path.{◌≡◌, refl}
use mathlib.Core.Bool.{Bool, true, false, cond}
use mathlib.Core.Option.{Option, none, some}
use mathlib.Core.List.{List, [], ◌∷◌, ◌++◌}
use lib.ListN.{length, length-append}
use native.Mathlib.Omega.{arith}
use Rattle.definitions.specs.Node.{Node, same, nan_constant, child_count_listed}
use Rattle.definitions.specs.Intern.{Lent, find, no_place, intern, add_new, found_or_new}
use Rattle.definitions.specs.Machine as M

abbrev pub Below : M.Outcome → Type 0
Below o = (i : ℕ) → o.answer ≡ M.stored i → i < length o.nodes

refused_below : (r : ℕ) (ns : List Node) → Below (M.outcome (M.refused r) ns)
refused_below r ns i e = absurd (let z : ◌≡◌ {A = ℕ} 0 1 = cc in omega arith)

stored_below : (j : ℕ) (ns : List Node) → j < length ns → Below (M.outcome (M.stored j) ns)
stored_below j ns l i e = let z : ◌≡◌ {A = ℕ} j i = cc in omega arith

-- what `find` finds is below the end
pub find_from : (n : Node) (ns : List Node) (j : ℕ) (i : ℕ) → find n ns j ≡ some i → i < j + length ns
unfolding find
find_from n [] j i e = absurd (let z : ◌≡◌ {A = ℕ} 0 1 = cc in omega arith)
find_from n (m ∷ ns) j i e = go (same m n) refl e (find_from n ns (suc j) i)
  where
    go : (b : Bool) → same m n ≡ b → (elim b as (λ _. Option ℕ) [ true ↦ some j | false ↦ find n ns (suc j) ]) ≡ some i → (find n ns (suc j) ≡ some i → i < suc j + length ns) → i < j + suc (length ns)
    go true q e h = let z : ◌≡◌ {A = ℕ} j i = cc in omega arith
    go false q e h = let z = h e in omega arith

intern_below : (l : Lent) (ns : List Node) (n : Node) → Below (M.stored_as (intern l ns n))
unfolding intern
intern_below l ns n = go (find n ns 0) refl
  where
    new : (o : Option ℕ) → Below (M.stored_as (add_new ns n o))
    new none = let e = length-append ns (n ∷ []) in stored_below (length ns) (ns ++ n ∷ []) (omega arith)
    new (some r) = refused_below r ns

    go : (o : Option ℕ) → find n ns 0 ≡ o → Below (M.stored_as (found_or_new l ns n o))
    go none e = new (no_place l (length ns))
    go (some i) e = let f = find_from n ns 0 i e in stored_below i ns (omega arith)

cond_below : (b : Bool) (o p : M.Outcome) → Below o → Below p → Below (cond b o p)
cond_below true o p f g = f
cond_below false o p f g = g

pub store_below : (l : Lent) (ns : List Node) (q : M.Request) → Below (M.store_call l ns q)
unfolding M.store_call
store_below l ns q =
    cond_below q.listed _ _
    (cond_below (nan_constant q.node.kind q.node.payload) _ _ (refused_below 10 ns)
    (cond_below (child_count_listed q.node.kind q.node.payload (length q.node.children)) _ _
    (cond_below (M.all_below (length ns) q.node.children) _ _ (intern_below l ns q.node) (refused_below 4 ns))
    (refused_below 6 ns)))
    (refused_below 5 ns)
