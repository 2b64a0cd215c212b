-- The table that inserting the ids by rising id gives, and what holds of it.
use Prim.Native.Nat.{ℕ, zero, suc, ◌+◌, ◌%◌, ◌≤◌, ◌<◌}
use mathlib.Core.Path.{◌≡◌, refl, sym, ap, ◌∙◌, subst}
use mathlib.Core.Bool.{Bool, true, false}
use mathlib.Core.List.{List, ◌++◌}
use lib.ListN.{length, get_or, set, take, drop, replicate, length-replicate, get_or-replicate, length-set, take-append-drop}
use lib.Seq.{get_or-take, length-take-le, take-set-lt, drop-set-lt}
use native.Mathlib.Omega.{arith}
use native.Mathlib.Nat.{mod-lt}
use native.Mathlib.Numerals.{add-one}
use borrow.Author.Tests.{eq-eqb, ne_eqb}
use Rattle.definitions.specs.Intern.{capacity}
use Rattle.slots.specs.Table.{free_place, inserted, Table, InOrder}
use Rattle.slots.specs.Insert.{Room, FirstFree}
use Rattle.slots.proofs.Doubling.{positive}
use Rattle.slots.proofs.Rounds.{round_hits}
use Rattle.slots.proofs.Pigeon.{least_zero}
use Rattle.slots.proofs.FreePlaces.{free_in}
use Rattle.slots.proofs.Placing.{some_empty, order_add}
use Rattle.slots.proofs.Ordering.{order_same, one_table}

-- ---- the first free place
module _ (slots : List ℕ) (size : ℕ) where
  free_here : (more from : ℕ) → get_or slots (from % size) 0 ≡ 0 → free_place (suc more) slots size from ≡ from % size
  unfolding free_place
  free_here more from e = ap (λ (b : Bool). elim b [ true ↦ from % size | false ↦ free_place more slots size (suc from) ]) (eq-eqb (get_or slots (from % size) 0) 0 e)

  free_next : (more from : ℕ) → (get_or slots (from % size) 0 ≡ 0 → ⊥) → free_place (suc more) slots size from ≡ free_place more slots size (suc from)
  unfolding free_place
  free_next more from e = ap (λ (b : Bool). elim b [ true ↦ from % size | false ↦ free_place more slots size (suc from) ]) (ne_eqb (get_or slots (from % size) 0) 0 e)

  free_is : (fuel from far : ℕ) → far < fuel → ((d : ℕ) → d < far → get_or slots ((from + d) % size) 0 ≡ 0 → ⊥) → get_or slots ((from + far) % size) 0 ≡ 0 → free_place fuel slots size from ≡ (from + far) % size
  free_is zero from far l used empty = absurd (omega arith)
  free_is (suc fuel) from zero l used empty =
      let e : from + 0 ≡ from = omega arith in
      free_here fuel from (ap (λ (x : ℕ). get_or slots (x % size) 0) (sym e) ∙ empty) ∙ ap (λ (x : ℕ). x % size) (sym e)
  free_is (suc fuel) from (suc far) l used empty =
      let z : from + 0 ≡ from = omega arith in
      let next : (d : ℕ) → suc from + d ≡ from + suc d = λ d. omega arith in
      free_next fuel from (λ e. used 0 (omega arith) (ap (λ (x : ℕ). get_or slots (x % size) 0) z ∙ e))
      ∙ free_is fuel (suc from) far (omega arith) (λ d m e. used (suc d) (omega arith) (ap (λ (x : ℕ). get_or slots (x % size) 0) (sym (next d)) ∙ e)) (ap (λ (x : ℕ). get_or slots (x % size) 0) (next far) ∙ empty)
      ∙ ap (λ (x : ℕ). x % size) (next far)

  pub free_place_lem : (hash p : ℕ) → FirstFree slots size hash p → free_place size slots size hash ≡ p
  free_place_lem hash p f = free_is size hash f.far f.near f.used (ap (λ (x : ℕ). get_or slots x 0) (sym f.is) ∙ f.empty) ∙ sym f.is

  -- where some slot is empty, there is one
  free_first : (hash p : ℕ) → p < size → get_or slots p 0 ≡ 0 → FirstFree slots size hash (free_place size slots size hash)
  free_first hash p l z =
      let r = round_hits hash p size l in
      let x = least_zero (λ (d : ℕ). get_or slots ((hash + d) % size) 0) size (r.0, r.1, ap (λ (y : ℕ). get_or slots y 0) r.2 ∙ z) in
      let is = free_is size hash x.0 x.1 x.2 x.3 in
      record { far = x.0; near = x.1; is = is; empty = ap (λ (y : ℕ). get_or slots y 0) is ∙ x.3; used = x.2 }

-- ---- the table
pub inserted_none : (hash : ℕ → ℕ) (size : ℕ) → inserted hash size 0 ≡ replicate size 0
unfolding inserted
inserted_none hash size = refl

inserted_more : (hash : ℕ → ℕ) (size n : ℕ) → inserted hash size (suc n) ≡ set (inserted hash size n) (free_place size (inserted hash size n) size (hash n)) (suc n)
unfolding inserted
inserted_more hash size n = refl

pub inserted_length : (hash : ℕ → ℕ) (size n : ℕ) → length (inserted hash size n) ≡ size
inserted_length hash size zero = ap length (inserted_none hash size) ∙ length-replicate size 0
inserted_length hash size (suc n) = ap length (inserted_more hash size n) ∙ length-set (inserted hash size n) _ (suc n) ∙ inserted_length hash size n

-- the same hashes give the same table
pub inserted_same : (f g : ℕ → ℕ) (size n : ℕ) → ((i : ℕ) → i < n → g i ≡ f i) → inserted g size n ≡ inserted f size n
unfolding inserted
inserted_same f g size zero e = refl
inserted_same f g size (suc n) e = rw (inserted_same f g size n (λ i l. e i (omega arith)), e n (omega arith)) refl

-- each id stands at its place, after lower ones alone
pub inserted_order : (hash : ℕ → ℕ) (size n : ℕ) → n ≤ size → InOrder hash n (inserted hash size n) size
inserted_order hash size zero l = record {
  placed = λ i m. absurd (omega arith);
  single = λ p q lp lq x e. absurd (x (ap (λ (s : List ℕ). get_or s p 0) (inserted_none hash size) ∙ get_or-replicate {A = ℕ} size p 0 0 lp));
  only = λ p lp. rw (inserted_none hash size, get_or-replicate {A = ℕ} size p 0 0 lp) (omega arith);
}
inserted_order hash size (suc n) l =
    let before = inserted_order hash size n (omega arith) in
    let room = some_empty hash n (inserted hash size n) size before (omega arith) in
    let free = free_first (inserted hash size n) size (hash n) room.0 room.1 room.2 in
    let long = inserted_length hash size n in
    subst (λ (s : List ℕ). InOrder hash (suc n) s size) (sym (inserted_more hash size n))
    (order_add hash n (inserted hash size n) size before hash (λ i m. refl) (free_place size (inserted hash size n) size (hash n)) free (omega arith))

-- slots in order are those of the table
pub order_filled : (hash : ℕ → ℕ) (count : ℕ) (slots : List ℕ) (size : ℕ) → 0 < size → count ≤ size → size ≤ length slots → InOrder hash count slots size → take size slots ≡ inserted hash size count
order_filled hash count slots size pos l sized o =
    one_table hash count size pos (take size slots) (inserted hash size count)
    (order_same hash count slots (take size slots) size (λ p b. get_or-take size slots p 0 b) o)
    (inserted_order hash size count l)
    (length-take-le size slots sized)
    (inserted_length hash size count)

module _ (hash : ℕ → ℕ) (count : ℕ) (slots : List ℕ) (size : ℕ) (t : Table hash count slots size) where
  pub few : count < size
  few = let l = t.load in let s = positive size t.doubled in omega arith

  slot_is : (p : ℕ) → p < size → get_or slots p 0 ≡ get_or (inserted hash size count) p 0
  slot_is p l = sym (get_or-take size slots p 0 l) ∙ ap (λ (s : List ℕ). get_or s p 0) t.filled

  -- the slots of a table are in order
  pub table_order : InOrder hash count slots size
  table_order = let l = few in order_same hash count (inserted hash size count) slots size slot_is (inserted_order hash size count (omega arith))

  -- a table that is not full has an empty slot
  pub room : Room slots size
  room = let s = some_empty hash count slots size table_order few in record { doubled = t.doubled; sized = t.sized; place = s.0; below = s.1; empty = s.2 }

  -- the next id in the first free place from its hash
  module _ (hash' : ℕ → ℕ) (old : (i : ℕ) → i < count → hash' i ≡ hash i) (p : ℕ) (free : FirstFree slots size (hash' count) p) (fits : count + 1 ≤ capacity size) where
    below : p < size
    below = free_in slots size (hash' count) p free

    -- it is the first free place of the table itself
    free_inserted : FirstFree (inserted hash size count) size (hash' count) p
    free_inserted = record {
      far = free.far;
      near = free.near;
      is = free.is;
      empty = sym (slot_is p below) ∙ free.empty;
      used = λ d l z. free.used d l (slot_is ((hash' count + d) % size) (mod-lt _ (positive size t.doubled)) ∙ z);
    }

    pub table_add : Table hash' (count + 1) (set slots p (count + 1)) size
    table_add = record {
      doubled = t.doubled;
      sized = rw length-set t.sized;
      load = fits;
      filled =
          take-set-lt size slots p (count + 1) below
          ∙ ap (λ (s : List ℕ). set s p (count + 1)) t.filled
          ∙ ap (λ (x : ℕ). set (inserted hash size count) x (count + 1)) (sym (free_place_lem (inserted hash size count) size (hash' count) p free_inserted))
          ∙ ap (λ (s : List ℕ). set s (free_place size s size (hash' count)) (count + 1)) (sym (inserted_same hash hash' size count old))
          ∙ ap (λ (x : ℕ). set (inserted hash' size count) (free_place size (inserted hash' size count) size (hash' count)) x) (add-one count)
          ∙ sym (inserted_more hash' size count)
          ∙ ap (inserted hash' size) (sym (add-one count));
    }

    pub past_add : drop size (set slots p (count + 1)) ≡ drop size slots
    past_add = drop-set-lt size slots p (count + 1) below

-- two lists of slots with the same table and the same slots past it are one
pub slots_one : (hash : ℕ → ℕ) (count : ℕ) (slots slots' : List ℕ) (size : ℕ) → Table hash count slots size → Table hash count slots' size → drop size slots' ≡ drop size slots → slots' ≡ slots
slots_one hash count slots slots' size t t' past =
    sym (take-append-drop size slots')
    ∙ ap (λ (s : List ℕ). s ++ drop size slots') (t'.filled ∙ sym t.filled)
    ∙ ap (λ (s : List ℕ). take size slots ++ s) past
    ∙ take-append-drop size slots
