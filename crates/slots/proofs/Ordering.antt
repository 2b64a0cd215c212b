-- Slots in order are those of one table.
use Prim.Native.Nat.{ℕ, zero, suc, ◌+◌, ◌-◌, ◌%◌, ◌<◌}
use mathlib.Core.Path.{◌≡◌, sym, ap, ◌∙◌, subst}
use mathlib.Core.List.{List}
use lib.ListN.{length, get_or}
use lib.Seq.{ext_get_or}
use native.Mathlib.Omega.{arith}
use native.Mathlib.Nat.{mod-lt}
use native.Mathlib.Decide.{dec_lt, ℕ_discrete}
use Rattle.slots.specs.Table.{slot_from, InOrder}

-- slots that agree with slots in order
pub order_same : (hash : ℕ → ℕ) (count : ℕ) (a b : List ℕ) (size : ℕ) → ((p : ℕ) → p < size → get_or b p 0 ≡ get_or a p 0) → InOrder hash count a size → InOrder hash count b size
order_same hash count a b size same o = record {
  placed = λ i l.
      let m = o.placed i l in
      let there : (d : ℕ) → slot_from b size (hash i) d ≡ slot_from a size (hash i) d = λ d. same ((hash i + d) % size) (let n = m.near in mod-lt _ (omega arith)) in
      record {
        far = m.far;
        near = m.near;
        here = there m.far ∙ m.here;
        earlier = λ d e. subst (λ (x : ℕ). (0 < x) × (x < suc i)) (sym (there d)) (m.earlier d e);
      };
  single = λ p q lp lq n e. o.single p q lp lq (λ z. n (same p lp ∙ z)) (sym (same p lp) ∙ e ∙ same q lq);
  only = λ p l. rw (same p l) (o.only p l);
}

-- ---- two tables of the same ids

module _ (hash : ℕ → ℕ) (count size : ℕ) (positive : 0 < size) where
  module _ (a b : List ℕ) (s : InOrder hash count a size) (t : InOrder hash count b size) where
    -- lower ids have the same place in both
    abbrev SameBelow : ℕ → Type 0
    SameBelow i = (j : ℕ) → j < i → (l : j < count) → (s.placed j l).far ≡ (t.placed j l).far

    -- an id that lies nearer in the first passes, in the second, a lower one that has its place in both
    nearer : (i : ℕ) (l : i < count) → SameBelow i → (s.placed i l).far < (t.placed i l).far → ⊥
    nearer i l same less =
        let p = s.placed i l in
        let e = (t.placed i l).earlier p.far less in
        let j : ℕ = slot_from b size (hash i) p.far - 1 in
        let low : j < i = (let x = e.0 in let y = e.1 in omega arith) in
        let m : j < count = omega arith in
        let q = t.placed j m in
        let value : slot_from b size (hash i) p.far ≡ suc j = (let x = e.0 in omega arith) in
        let at = t.single ((hash i + p.far) % size) ((hash j + q.far) % size) (mod-lt _ positive) (mod-lt _ positive) (λ z. let x = e.0 in omega arith) (value ∙ sym q.here) in
        let there : slot_from a size (hash i) p.far ≡ suc j = ap (λ (x : ℕ). get_or a x 0) at ∙ ap (slot_from a size (hash j)) (sym (same j low m)) ∙ (s.placed j m).here in
        let own = p.here in
        omega arith

    -- what is held at a place of the first is held there in the second
    held_too : SameBelow count → (p : ℕ) → p < size → (get_or a p 0 ≡ 0 → ⊥) → get_or b p 0 ≡ get_or a p 0
    held_too same p l n =
        let i : ℕ = get_or a p 0 - 1 in
        let k = s.only p l in
        let m : i < count = omega arith in
        let value : get_or a p 0 ≡ suc i = omega arith in
        let q = s.placed i m in
        let at = s.single p ((hash i + q.far) % size) l (mod-lt _ positive) n (value ∙ sym q.here) in
        ap (λ (x : ℕ). get_or b x 0) at ∙ ap (slot_from b size (hash i)) (same i m m) ∙ (t.placed i m).here ∙ sym value

  module _ (a b : List ℕ) (s : InOrder hash count a size) (t : InOrder hash count b size) where
    same_far : (n i : ℕ) → i < n → (l : i < count) → (s.placed i l).far ≡ (t.placed i l).far
    same_far zero i b l = absurd (omega arith)
    same_far (suc n) i below l = go (same_far n) (dec_lt (s.placed i l).far (t.placed i l).far) (dec_lt (t.placed i l).far (s.placed i l).far)
      where
        go : ((j : ℕ) → j < n → (m : j < count) → (s.placed j m).far ≡ (t.placed j m).far) → Dec ((s.placed i l).far < (t.placed i l).far) → Dec ((t.placed i l).far < (s.placed i l).far) → (s.placed i l).far ≡ (t.placed i l).far
        go rec (yes x) d = absurd (nearer a b s t i l (λ j k m. rec j (omega arith) m) x)
        go rec (no x) (yes y) = absurd (nearer b a t s i l (λ j k m. sym (rec j (omega arith) m)) y)
        go rec (no x) (no y) = omega arith

    same_slot : (p : ℕ) → p < size → get_or a p 0 ≡ get_or b p 0
    same_slot p l = go (ℕ_discrete (get_or a p 0) 0) (ℕ_discrete (get_or b p 0) 0)
      where
        go : Dec (get_or a p 0 ≡ 0) → Dec (get_or b p 0 ≡ 0) → get_or a p 0 ≡ get_or b p 0
        go (yes x) (yes y) = x ∙ sym y
        go (no x) d = sym (held_too a b s t (λ j k m. same_far count j k m) p l x)
        go (yes x) (no y) = held_too b a t s (λ j k m. sym (same_far count j k m)) p l y

    pub one_table : length a ≡ size → length b ≡ size → a ≡ b
    one_table la lb = ext_get_or 0 a b (la ∙ sym lb) (λ p l. same_slot p (rw la at l))
