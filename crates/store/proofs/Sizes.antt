-- The least table for a count, against a table of any doubled size.
use Prim.Native.Nat.{ℕ, zero, suc, ◌+◌, ◌*◌, ◌-◌, ◌^◌, ◌≤◌, ◌<◌, min}
use mathlib.Core.Path.{◌≡◌, refl, sym, ap, ◌∙◌, subst}
use mathlib.Core.Bool.{Bool, true, false}
use mathlib.Core.Option.{none, some}
use lib.Dec.{leb}
use lib.Pow.{pow_pos, pow_mono, pow-add}
use native.Mathlib.Omega.{arith}
use native.Mathlib.Decide.{dec_lt}
use native.Mathlib.Nat.{pow-suc, mul_assoc, mul_comm, mul-one, mul-le-mul_left}
use borrow.Author.Tests.{le-leb, lt-leb, lt-ltb, le-ltb, leb-false}
use Rattle.slots.specs.Table.{TableSize}
use Rattle.definitions.specs.Limits.{most_nodes, first_table_size, most_doublings}
use Rattle.definitions.specs.Refusals.{no_node_place, no_slot_place}
use Rattle.definitions.specs.Intern.{capacity, table_size_from, table_size, no_place, Lent}
use Rattle.store.specs.View.{Grown}

-- a doubling first or last
first_doubling : (s m : ℕ) → s * 2 ^ suc m ≡ s * 2 * 2 ^ m
first_doubling s m = ap (λ (x : ℕ). s * x) (pow-suc 2 m ∙ mul_comm (2 ^ m) 2) ∙ sym (mul_assoc s 2 (2 ^ m))

at_least : (s m : ℕ) → s ≤ s * 2 ^ m
at_least s m = subst (λ (x : ℕ). x ≤ s * 2 ^ m) (mul-one s) (mul-le-mul_left s (pow_pos m))

pub table_low : (f m s c : ℕ) → c ≤ capacity (s * 2 ^ m) → table_size_from f s c ≤ s * 2 ^ m
unfolding table_size_from
table_low zero m s c h = at_least s m
table_low (suc f) m s c h = go (leb c (capacity s)) refl (λ k. table_low f k (s * 2) c) m h
  where
    go : (b : Bool) → leb c (capacity s) ≡ b → ((k : ℕ) → c ≤ capacity (s * 2 * 2 ^ k) → table_size_from f (s * 2) c ≤ s * 2 * 2 ^ k) → (m : ℕ) → c ≤ capacity (s * 2 ^ m) → elim b [ true ↦ s | false ↦ table_size_from f (s * 2) c ] ≤ s * 2 ^ m
    go true e rec m l = at_least s m
    go false e rec zero l = absurd (let g = leb-false c (capacity s) e in omega (arith, rw (mul-one s) at l))
    go false e rec (suc m) l = rw (first_doubling s m) (rec m (rw (first_doubling s m) at l))

-- the first size that holds the count, so many doublings on
pub table_is : (f m s c : ℕ) → m ≤ f → c ≤ capacity (s * 2 ^ m) → ((d : ℕ) → d < m → capacity (s * 2 ^ d) < c) → table_size_from f s c ≡ s * 2 ^ m
unfolding table_size_from
table_is zero zero s c l h n = sym (mul-one s)
table_is zero (suc m) s c l h n = absurd (omega arith)
table_is (suc f) zero s c l h n = ap (λ (b : Bool). elim b [ true ↦ s | false ↦ table_size_from f (s * 2) c ]) (le-leb c (capacity s) (rw (mul-one s) at h)) ∙ sym (mul-one s)
table_is (suc f) (suc m) s c l h n =
    let small : capacity s < c = rw (mul-one s) at (n 0 (omega arith)) in
    ap (λ (b : Bool). elim b [ true ↦ s | false ↦ table_size_from f (s * 2) c ]) (lt-leb c (capacity s) small)
    ∙ table_is f m (s * 2) c (omega arith) (rw (first_doubling s m) at h) (λ d k. rw (first_doubling s d) at (n (suc d) (omega arith)))
    ∙ sym (first_doubling s m)

-- a size whose 7/10 are below 65,536 has few doublings
few_doublings : (s m : ℕ) → first_table_size ≤ s → capacity (s * 2 ^ m) < 65537 → m < most_doublings
few_doublings s m b h = go (dec_lt m 16)
  where
    go : Dec (m < 16) → m < 16
    go (yes l) = l
    go (no l) = absurd (let p : 65536 ≤ 2 ^ m = pow_mono {i = 16} {j = m} (omega arith) in let q : s * 65536 ≤ s * 2 ^ m = mul-le-mul_left s p in omega arith)

size_first : (size : ℕ) → TableSize size → first_table_size ≤ size
size_first size t = rw t.is (at_least 64 t.doublings)

-- ---- the size after calls
pub grown_refl : (size count : ℕ) → Grown size count size
grown_refl size count = record { doublings = 0; is = sym (mul-one size); needed = λ d l. absurd (omega arith) }

pub grown_once : (size count : ℕ) → capacity size < count → Grown size count (size * 2)
grown_once size count h = record {
  doublings = 1;
  is = refl;
  needed = λ d l. let e : d ≡ 0 = omega arith in rw (e, mul-one size) h;
}

pub grown_trans : (size count size' count' size'' : ℕ) → count ≤ count' → Grown size count size' → Grown size' count' size'' → Grown size count' size''
grown_trans size count size' count' size'' l a b = record {
  doublings = a.doublings + b.doublings;
  is = b.is ∙ ap (λ (x : ℕ). x * 2 ^ b.doublings) a.is ∙ mul_assoc size (2 ^ a.doublings) (2 ^ b.doublings) ∙ ap (λ (x : ℕ). size * x) (sym (pow-add 2 a.doublings b.doublings));
  needed = λ d m. go d m (dec_lt d a.doublings);
}
  where
    go : (d : ℕ) → d < a.doublings + b.doublings → Dec (d < a.doublings) → capacity (size * 2 ^ d) < count'
    go d m (yes k) = let n = a.needed d k in omega arith
    go d m (no k) =
        let r : d ≡ a.doublings + (d - a.doublings) = omega arith in
        let e : size * 2 ^ d ≡ size' * 2 ^ (d - a.doublings) =
        ap (λ (x : ℕ). size * 2 ^ x) r ∙ ap (λ (x : ℕ). size * x) (pow-add 2 a.doublings (d - a.doublings)) ∙ sym (mul_assoc size (2 ^ a.doublings) (2 ^ (d - a.doublings))) ∙ ap (λ (x : ℕ). x * 2 ^ (d - a.doublings)) (sym a.is) in
        rw e (b.needed (d - a.doublings) (omega arith))

-- it is the least of the size, twice the size and so on that holds the count
pub grown_is : (size count size' : ℕ) → TableSize size → count ≤ most_nodes → count ≤ capacity size' → Grown size count size' → size' ≡ table_size_from most_doublings size count
grown_is size count size' t many load g = g.is ∙ sym (table_is most_doublings g.doublings size count few (rw g.is at load) g.needed)
  where
    few : g.doublings ≤ most_doublings
    few = go g.doublings g.needed
      where
        go : (m : ℕ) → ((d : ℕ) → d < m → capacity (size * 2 ^ d) < count) → m ≤ most_doublings
        go zero n = omega arith
        go (suc m) n = few_doublings size m (size_first size t) (let h = n m (omega arith) in omega arith)

-- ---- why a store takes no more
module _ (l : Lent) (count size : ℕ) (t : TableSize size) (load : count ≤ capacity size) (sized : size ≤ l.slots) where
  pub full_nodes : min l.nodes most_nodes ≤ count → no_place l count ≡ some no_node_place
  unfolding no_place
  full_nodes h = rw (le-leb (min l.nodes most_nodes) count h) refl

  module _ (place : count < min l.nodes most_nodes) where
    open_place : leb (min l.nodes most_nodes) count ≡ false
    open_place = lt-leb (min l.nodes most_nodes) count place

    pub full_not : count + 1 ≤ capacity size → no_place l count ≡ none
    unfolding no_place table_size
    full_not h =
        let low : table_size_from most_doublings first_table_size (suc count) ≤ size = subst (λ (x : ℕ). table_size_from most_doublings first_table_size (suc count) ≤ x) (sym t.is) (table_low most_doublings t.doublings first_table_size (suc count) (let e = t.is in omega arith)) in
        rw (open_place, le-ltb l.slots (table_size_from most_doublings first_table_size (suc count)) (omega arith)) refl

    module _ (h : capacity size < count + 1) where
      -- the sizes below the present one hold fewer, and so does it
      smaller : (d : ℕ) → d < suc t.doublings → capacity (first_table_size * 2 ^ d) < suc count
      smaller d m =
          let p : 2 ^ d ≤ 2 ^ t.doublings = pow_mono {i = d} {j = t.doublings} (omega arith) in
          let q : 64 * 2 ^ d ≤ 64 * 2 ^ t.doublings = mul-le-mul_left 64 p in
          let e = t.is in omega arith

      next : table_size_from most_doublings first_table_size (suc count) ≡ size * 2
      next =
          let e = t.is in
          let b = size_first size t in
          let two : first_table_size * 2 ^ suc t.doublings ≡ size * 2 = ap (λ (x : ℕ). 64 * x) (pow-suc 2 t.doublings) ∙ sym (mul_assoc 64 (2 ^ t.doublings) 2) ∙ ap (λ (x : ℕ). x * 2) (sym e) in
          table_is most_doublings (suc t.doublings) first_table_size (suc count) (few_doublings 64 t.doublings (omega arith) (omega arith)) (rw two (omega arith)) smaller ∙ two

      pub full_slots : l.slots < size * 2 → no_place l count ≡ some no_slot_place
      unfolding no_place table_size
      full_slots m = rw (open_place, next, lt-ltb l.slots (size * 2) m) refl

      pub full_double : size * 2 ≤ l.slots → no_place l count ≡ none
      unfolding no_place table_size
      full_double m = rw (open_place, next, le-ltb l.slots (size * 2) m) refl
