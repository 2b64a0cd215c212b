-- A new id among slots in order.
use Prim.Native.Nat.{ℕ, suc, ◌+◌, ◌-◌, ◌%◌, ◌≤◌, ◌<◌}
use mathlib.Core.Path.{◌≡◌, sym, ap, ◌∙◌, subst}
use mathlib.Core.List.{List}
use mathlib.Core.Logic.{◌⊎◌, inl, inr}
use lib.ListN.{length, get_or, set}
use lib.Seq.{get_or-set_same, get_or-set_other}
use native.Mathlib.Omega.{arith}
use native.Mathlib.Nat.{eq-or-lt_of_le, le_of_suc-le-suc, mod-lt}
use native.Mathlib.Decide.{ℕ_discrete}
use Rattle.slots.specs.Table.{slot_from, Placed, InOrder}
use Rattle.slots.specs.Insert.{FirstFree}
use Rattle.slots.proofs.Pigeon.{pigeon, some_zero}
use Rattle.slots.proofs.FreePlaces.{free_in}

module _ (hash : ℕ → ℕ) (count : ℕ) (slots : List ℕ) (size : ℕ) (o : InOrder hash count slots size) where
  -- where there are more slots than ids, one is empty
  pub some_empty : count < size → (p : ℕ) × (p < size) × (get_or slots p 0 ≡ 0)
  some_empty more = go (some_zero (λ p. get_or slots p 0) size)
    where
      go : ((p : ℕ) → p < size → get_or slots p 0 ≡ 0 → ⊥) ⊎ ((p : ℕ) × (p < size) × (get_or slots p 0 ≡ 0)) → (p : ℕ) × (p < size) × (get_or slots p 0 ≡ 0)
      go (inr s) = s
      go (inl f) = absurd (let h = pigeon count size (λ p. get_or slots p 0 - 1) small apart in omega arith)
        where
          small : (p : ℕ) → p < size → get_or slots p 0 - 1 < count
          small p l = let k = o.only p l in let n = f p l in omega arith

          apart : (p q : ℕ) → p < size → q < size → get_or slots p 0 - 1 ≡ get_or slots q 0 - 1 → p ≡ q
          apart p q lp lq e = o.single p q lp lq (f p lp) (let n = f p lp in let m = f q lq in omega arith)

  -- the next id in the first free place from its hash
  module _ (hash' : ℕ → ℕ) (old : (i : ℕ) → i < count → hash' i ≡ hash i) (p : ℕ) (free : FirstFree slots size (hash' count) p) (sized : size ≤ length slots) where
    abbrev slots' : List ℕ
    slots' = set slots p (suc count)

    here : get_or slots' p 0 ≡ suc count
    here = get_or-set_same slots p (suc count) 0 (let a = free_in slots size (hash' count) p free in omega arith)

    other : (q : ℕ) → (q ≡ p → ⊥) → get_or slots' q 0 ≡ get_or slots q 0
    other q n = get_or-set_other slots p q (suc count) 0 n

    -- what was in use stays so
    still : (q : ℕ) → (get_or slots q 0 ≡ 0 → ⊥) → get_or slots' q 0 ≡ get_or slots q 0
    still q n = other q (λ e. n (ap (λ (x : ℕ). get_or slots x 0) e ∙ free.empty))

    kept : (h v : ℕ) → Placed slots size h (suc v) → Placed slots' size h (suc v)
    kept h v m = record {
      far = m.far;
      near = m.near;
      here = still _ (λ z. let e = m.here in omega arith) ∙ m.here;
      earlier = λ d l. let e = m.earlier d l in subst (λ (x : ℕ). (0 < x) × (x < suc v)) (sym (still ((h + d) % size) (λ z. let a = e.0 in omega arith))) e;
    }

    -- the slots that the new id passed hold ids, and so lower ones
    passed : (d : ℕ) → d < free.far → (0 < slot_from slots' size (hash' count) d) × (slot_from slots' size (hash' count) d < suc count)
    passed d l =
        let u = free.used d l in
        let k = o.only ((hash' count + d) % size) (let n = free.near in mod-lt _ (omega arith)) in
        subst (λ (x : ℕ). (0 < x) × (x < suc count)) (sym (still ((hash' count + d) % size) u)) (omega arith, omega arith)

    placed : (i : ℕ) → i < suc count → Placed slots' size (hash' i) (suc i)
    placed i l = go (eq-or-lt_of_le (le_of_suc-le-suc l))
      where
        go : (i ≡ count) ⊎ (i < count) → Placed slots' size (hash' i) (suc i)
        go (inl e) = rw e (record {
          far = free.far;
          near = free.near;
          here = ap (λ (x : ℕ). get_or slots' x 0) (sym free.is) ∙ here;
          earlier = passed;
        })
        go (inr m) = rw (old i m) (kept (hash i) i (o.placed i m))

    single : (q r : ℕ) → q < size → r < size → (get_or slots' q 0 ≡ 0 → ⊥) → get_or slots' q 0 ≡ get_or slots' r 0 → q ≡ r
    single q r lq lr n e = go (ℕ_discrete q p) (ℕ_discrete r p)
      where
        go : Dec (q ≡ p) → Dec (r ≡ p) → q ≡ r
        go (yes a) (yes b) = a ∙ sym b
        go (yes a) (no b) = absurd (let z : suc count ≡ get_or slots r 0 = sym here ∙ ap (λ (x : ℕ). get_or slots' x 0) (sym a) ∙ e ∙ other r b in let k = o.only r lr in omega arith)
        go (no a) (yes b) = absurd (let z : get_or slots q 0 ≡ suc count = sym (other q a) ∙ e ∙ ap (λ (x : ℕ). get_or slots' x 0) b ∙ here in let k = o.only q lq in omega arith)
        go (no a) (no b) = o.single q r lq lr (λ z. n (other q a ∙ z)) (sym (other q a) ∙ e ∙ other r b)

    only : (q : ℕ) → q < size → get_or slots' q 0 ≤ suc count
    only q l = go (ℕ_discrete q p)
      where
        go : Dec (q ≡ p) → get_or slots' q 0 ≤ suc count
        go (yes a) = rw a (let h = here in omega arith)
        go (no a) = rw (other q a) (let k = o.only q l in omega arith)

    pub order_add : InOrder hash' (suc count) slots' size
    order_add = record { placed = placed; single = single; only = only }
