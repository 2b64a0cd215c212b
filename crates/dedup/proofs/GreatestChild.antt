-- A node over the newest one is none of the nodes.
use Prim.Native.Nat.{ℕ, zero, suc, ◌-◌, ◌≤◌, ◌<◌, max}
use mathlib.Core.Path.{◌≡◌, refl, sym, ap, ◌∙◌}
use mathlib.Core.Bool.{Bool, false, cond, ◌&&◌}
use mathlib.Core.List.{List, [], ◌∷◌}
use lib.ListN.{length, get_or, take, get_or-eq_default}
use lib.Dec.{ltb}
use native.Mathlib.Omega.{arith}
use native.Mathlib.Decide.{dec_lt}
use borrow.Author.Tests.{lt-ltb, le-ltb}
use Rattle.arena.specs.declared.node.DagNode.{DagNode}
use Rattle.arena.specs.Node.{node_at, one, places_of, node_of}
use Rattle.arena.specs.Nodes.{AllWellFormed}
use Rattle.arena.proofs.OneNode.{not_one}
use Rattle.arena.proofs.Places.{places_at}
use Rattle.dedup.specs.declared.probing.Place.TheVariants.{Free}
use Rattle.dedup.specs.Probe.{greatest_child, compared_id, Probed, OverNewest}
use Rattle.slots.specs.Held.{holds}
use Rattle.slots.specs.Insert.{FirstFree}

-- ---- the greatest, place by place
pub greatest_none : greatest_child [] ≡ 0
unfolding greatest_child
greatest_none = refl

pub greatest_more : (j : ℕ) (xs : List ℕ) → greatest_child (take (suc j) xs) ≡ max (greatest_child (take j xs)) (get_or xs j 0)
unfolding greatest_child
greatest_more zero [] = omega arith
greatest_more zero (x ∷ xs) = omega arith
greatest_more (suc j) [] = omega arith
greatest_more (suc j) (x ∷ xs) = let r = greatest_more j xs in omega arith

greatest_within : (most : ℕ) (xs : List ℕ) → ((j : ℕ) → get_or xs j 0 ≤ most) → greatest_child xs ≤ most
unfolding greatest_child
greatest_within most [] h = omega arith
greatest_within most (x ∷ xs) h = let l = h 0 in let r = greatest_within most xs (λ j. h (suc j)) in omega arith

empty : (xs : List ℕ) → length xs ≡ 0 → xs ≡ []
empty [] e = refl
empty (x ∷ xs) e = absurd (omega arith)

-- ---- a node with children is above each of them: one that is not above the greatest is not a node with these children
module _ (w : List ℕ) (count kind payload flags : ℕ) (c : List ℕ) (f : AllWellFormed w count) where
  abbrev key : DagNode
  key = node_of kind payload flags c

  not_key : 0 < length c → (id : ℕ) → id < count → id ≤ greatest_child c → false ≡ one (node_at w id) key
  unfolding node_of
  not_key some id l least = not_one (node_at w id) key (λ o. differs o.arity o.children)
    where
      differs : (node_at w id).arity ≡ length c → (node_at w id).children ≡ places_of c → ⊥
      differs arity children =
          let p = (f.each id l).places in
          let first = p.lower 0 (omega arith) in
          let g = greatest_within (id - 1) c (λ j. by j (dec_lt j (length c))) in
          omega arith
        where
          by : (j : ℕ) → Dec (j < length c) → get_or c j 0 ≤ id - 1
          by j (yes m) =
              let b = (f.each id l).places.lower j (omega arith) in
              let e : get_or (node_at w id).children j 0 ≡ get_or c j 0 = ap (λ (x : List ℕ). get_or x j 0) children ∙ places_at c j in
              omega arith
          by j (no m) = let e = get_or-eq_default c 0 {n = j} (omega arith) in omega arith

  -- so that node 0 is compared in its place
  pub compared_one : (id compared : ℕ) → id < count → compared ≡ compared_id id (greatest_child c) → (compared < count) × (one (node_at w compared) key ≡ one (node_at w id) key)
  unfolding compared_id
  compared_one id compared l e = by (dec_lt (greatest_child c) id)
    where
      none : length c ≡ 0 → greatest_child c ≡ 0
      none z = ap greatest_child (empty c z) ∙ greatest_none

      by : Dec (greatest_child c < id) → (compared < count) × (one (node_at w compared) key ≡ one (node_at w id) key)
      by (yes m) =
          let is : compared ≡ id = e ∙ ap (λ (b : Bool). cond b id 0) (lt-ltb (greatest_child c) id m) in
          (omega arith, ap (λ (x : ℕ). one (node_at w x) key) is)
      by (no m) = zeroth (dec_lt 0 (length c))
        where
          is : compared ≡ 0
          is = e ∙ ap (λ (b : Bool). cond b id 0) (le-ltb (greatest_child c) id (omega arith))

          zeroth : Dec (0 < length c) → (compared < count) × (one (node_at w compared) key ≡ one (node_at w id) key)
          zeroth (yes some) = (omega (arith, is), sym (not_key some compared (omega (arith, is)) (omega (arith, is))) ∙ not_key some id l (omega arith))
          zeroth (no s) =
              let same : compared ≡ id = omega (arith, is, none (omega arith)) in
              (omega arith, ap (λ (x : ℕ). one (node_at w x) key) same)

-- ---- no node is over the newest one, and no slot holds one
module _ (w : List ℕ) (count kind payload flags : ℕ) (c : List ℕ) (f : AllWellFormed w count) (n : OverNewest count c) where
  abbrev over : DagNode
  over = node_of kind payload flags c

  in_no_slot : (slot : ℕ) → holds w count over slot ≡ false
  unfolding holds
  in_no_slot zero = refl
  in_no_slot (suc id) = by (dec_lt id count)
    where
      by : Dec (id < count) → ltb id count && one (node_at w id) over ≡ false
      by (yes l) = rw (lt-ltb id count l) (sym (not_key w count kind payload flags c f n.with_children id l (let e = n.newest in omega arith)))
      by (no l) = rw (le-ltb id count (omega arith)) refl

  -- the first free place ends the search for it
  pub over_newest_free : (slots : List ℕ) (size place : ℕ) → FirstFree slots size over.hash place → Probed w count slots size over (Free place)
  unfolding Probed
  over_newest_free slots size place free = record {
    reached = record { far = free.far; near = free.near; is = free.is; passed = record { used = free.used; other = λ d l. in_no_slot _ } };
    empty = free.empty;
  }
