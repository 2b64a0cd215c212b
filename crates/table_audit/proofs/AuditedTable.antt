-- What the audit tests makes up the table and keeps nodes apart, and follows from them.
use Prim.Native.Nat.{ℕ, suc, ◌+◌, ◌-◌, ◌%◌, ◌≤◌, ◌<◌}
use mathlib.Core.Path.{◌≡◌, sym, ap, ◌∙◌, subst}
use mathlib.Core.List.{List}
use lib.ListN.{length, get_or}
use native.Mathlib.Omega.{arith}
use native.Mathlib.Nat.{mod-lt}
use native.Mathlib.Decide.{dec_lt, ℕ_discrete}
use Rattle.arena.specs.Node.{node_at}
use Rattle.arena.specs.Nodes.{AllWellFormed, Nodes}
use Rattle.definitions.proofs.Deciding.{is_false}
use Rattle.arena.proofs.OneNode.{one_hash}
use Rattle.definitions.specs.Intern.{capacity}
use Rattle.slots.specs.Table.{TableSize, slot_from, Placed, InOrder, Table, hash_at}
use Rattle.table_audit.specs.Audit.{used_slots, MeetsOwn, AllMeetOwn}
use Rattle.slots.proofs.Doubling.{positive}
use Rattle.slots.proofs.Pigeon.{pigeon}
use Rattle.slots.proofs.Inserting.{order_filled, table_order}
use Rattle.table_audit.proofs.UsedSlots.{used_lt, used_apart, used_at}
use Rattle.table_audit.proofs.OwnSlots.{own_placed, own_apart}

module _ (w : List ℕ) (count : ℕ) (slots : List ℕ) (size : ℕ) where
  -- ---- the audit's tests make up the table
  module _ (own : AllMeetOwn w count slots size) (number : used_slots slots size ≡ count) where
    -- the place of an id's slot
    abbrev place_by : (i : ℕ) → Dec (i < count) → ℕ
    place_by i (yes l) = (hash_at w i + (own i l).far) % size
    place_by i (no n) = 0

    abbrev place_of : ℕ → ℕ
    place_of i = place_by i (dec_lt i count)

    place_in : (i : ℕ) → i < count → place_of i < size
    place_in i l = go (dec_lt i count)
      where
        go : (d : Dec (i < count)) → place_by i d < size
        go (yes m) = let n = (own i m).near in mod-lt _ (omega arith)
        go (no n) = absurd (n l)

    place_value : (i : ℕ) → i < count → get_or slots (place_of i) 0 ≡ suc i
    place_value i l = go (dec_lt i count)
      where
        go : (d : Dec (i < count)) → get_or slots (place_by i d) 0 ≡ suc i
        go (yes m) = (own i m).here
        go (no n) = absurd (n l)

    place_used : (i : ℕ) → i < count → get_or slots (place_of i) 0 ≡ 0 → ⊥
    place_used i l z = let v = place_value i l in omega arith

    -- as many slots as ids are in use, so that no slot is in use but these
    module _ (p : ℕ) (lp : p < size) (n : get_or slots p 0 ≡ 0 → ⊥) where
      abbrev spot : (i : ℕ) → Dec (i < count) → ℕ
      spot i (yes l) = place_of i
      spot i (no m) = p

      spot_in : (i : ℕ) (d : Dec (i < count)) → spot i d < size
      spot_in i (yes l) = place_in i l
      spot_in i (no m) = lp

      spot_used : (i : ℕ) (d : Dec (i < count)) → get_or slots (spot i d) 0 ≡ 0 → ⊥
      spot_used i (yes l) = place_used i l
      spot_used i (no m) = n

      no_more : ((i : ℕ) → i < count → place_of i ≡ p → ⊥) → ⊥
      no_more none = let h = pigeon count (count + 1) (λ i. used_slots slots (spot i (dec_lt i count))) small apart in omega arith
        where
          small : (i : ℕ) → i < count + 1 → used_slots slots (spot i (dec_lt i count)) < count
          small i l = let u = used_lt slots (spot i (dec_lt i count)) size (spot_in i (dec_lt i count)) (spot_used i (dec_lt i count)) in let e = number in omega arith

          same : (i j : ℕ) (d : Dec (i < count)) (e : Dec (j < count)) → i < count + 1 → j < count + 1 → spot i d ≡ spot j e → i ≡ j
          same i j (yes l) (yes m) _ _ q = let a = place_value i l in let b = place_value j m in let z = ap (λ (x : ℕ). get_or slots x 0) q in omega arith
          same i j (yes l) (no m) _ _ q = absurd (none i l q)
          same i j (no l) (yes m) _ _ q = absurd (none j m (sym q))
          same i j (no l) (no m) li lj q = omega arith

          apart : (i j : ℕ) → i < count + 1 → j < count + 1 → used_slots slots (spot i (dec_lt i count)) ≡ used_slots slots (spot j (dec_lt j count)) → i ≡ j
          apart i j li lj e = same i j (dec_lt i count) (dec_lt j count) li lj (used_apart slots _ _ (spot_used i (dec_lt i count)) (spot_used j (dec_lt j count)) e)

      abbrev id : ℕ
      id = get_or slots p 0 - 1

      covered : (id < count) × (place_of id ≡ p)
      covered = go (dec_lt id count) (ℕ_discrete (place_of id) p)
        where
          wrong : (i : ℕ) → i < count → place_of i ≡ p → (id < count) × (place_of id ≡ p)
          wrong i l e =
              let v = place_value i l in
              let q = ap (λ (x : ℕ). get_or slots x 0) e in
              let same : i ≡ id = omega arith in
              subst (λ (x : ℕ). (x < count) × (place_of x ≡ p)) same (l, e)

          go : Dec (id < count) → Dec (place_of id ≡ p) → (id < count) × (place_of id ≡ p)
          go (yes l) (yes e) = (l, e)
          go (yes l) (no e) = absurd (no_more (λ i m q. e (wrong i m q).1))
          go (no l) d = absurd (no_more (λ i m q. l (wrong i m q).0))

    single : (p q : ℕ) → p < size → q < size → (get_or slots p 0 ≡ 0 → ⊥) → get_or slots p 0 ≡ get_or slots q 0 → p ≡ q
    single p q lp lq n e =
        let a = covered p lp n in
        let b = covered q lq (λ z. n (e ∙ z)) in
        sym a.1 ∙ ap (λ (x : ℕ). place_of (x - 1)) e ∙ b.1

    only : (p : ℕ) → p < size → get_or slots p 0 ≤ count
    only p lp = go (ℕ_discrete (get_or slots p 0) 0)
      where
        go : Dec (get_or slots p 0 ≡ 0) → get_or slots p 0 ≤ count
        go (yes z) = omega arith
        go (no n) = let a = (covered p lp n).0 in omega arith

    pub sound_of : AllWellFormed w count → TableSize size → size ≤ length slots → count ≤ capacity size → Nodes w count × Table (hash_at w) count slots size
    sound_of f t s l = (
      record {
        formed = f;
        apart = λ i j li lj o. own_apart w slots size i j ((f.each i li).hashed ∙ one_hash (node_at w i) (node_at w j) o ∙ sym (f.each j lj).hashed) o (own i li) (own j lj);
      },
      record {
        doubled = t;
        sized = s;
        load = l;
        filled = order_filled (hash_at w) count slots size (positive size t) (omega arith) s (record { placed = λ i li. own_placed w slots size i (own i li); single = single; only = only });
      },
    )

  -- ---- and follow from it
  module _ (s : Nodes w count) (t : Table (hash_at w) count slots size) where
    o : InOrder (hash_at w) count slots size
    o = table_order (hash_at w) count slots size t

    pub meets_own : (i : ℕ) → i < count → MeetsOwn w slots size i
    meets_own i l = record {
      far = m.far;
      near = m.near;
      here = m.here;
      before = λ d ld.
          let e = m.earlier d ld in
          let used = e.0 in
          let below = e.1 in
          record { used = used; lower = omega arith; other = is_false _ (λ h. let same = s.apart (slot_from slots size (hash_at w i) d - 1) i (omega arith) l h in omega arith) };
    }
      where
        m : Placed slots size (hash_at w i) (suc i)
        m = o.placed i l

    abbrev placed_at : (i : ℕ) → i < count → ℕ
    placed_at i l = (hash_at w i + (meets_own i l).far) % size

    -- each id has a slot in use
    at_least : count ≤ used_slots slots size
    at_least = pigeon (used_slots slots size) count (λ i. used_slots slots (at i (dec_lt i count))) (λ i l. small i l (dec_lt i count)) (λ i j li lj e. apart i j li lj (dec_lt i count) (dec_lt j count) e)
      where
        at : (i : ℕ) → Dec (i < count) → ℕ
        at i (yes l) = placed_at i l
        at i (no n) = 0

        full : (i : ℕ) → i < count → (d : Dec (i < count)) → get_or slots (at i d) 0 ≡ suc i
        full i l (yes k) = (meets_own i k).here
        full i l (no n) = absurd (n l)

        in_use : (i : ℕ) → i < count → (d : Dec (i < count)) → get_or slots (at i d) 0 ≡ 0 → ⊥
        in_use i l d z = let v = full i l d in omega arith

        small : (i : ℕ) → i < count → (d : Dec (i < count)) → used_slots slots (at i d) < used_slots slots size
        small i l (yes k) = used_lt slots (placed_at i k) size (let n = (meets_own i k).near in mod-lt _ (omega arith)) (in_use i l (yes k))
        small i l (no n) = absurd (n l)

        apart : (i j : ℕ) → i < count → j < count → (d : Dec (i < count)) (e : Dec (j < count)) → used_slots slots (at i d) ≡ used_slots slots (at j e) → i ≡ j
        apart i j li lj d e q =
            let z = ap (λ (x : ℕ). get_or slots x 0) (used_apart slots _ _ (in_use i li d) (in_use j lj e) q) in
            let a = full i li d in
            let b = full j lj e in
            omega arith

    -- and each slot in use an id
    at_most : used_slots slots size ≤ count
    at_most = pigeon count (used_slots slots size) (λ k. get_or slots (at k (dec_lt k (used_slots slots size))) 0 - 1) (λ k l. small k l (dec_lt k (used_slots slots size))) (λ k j lk lj e. apart k j lk lj (dec_lt k (used_slots slots size)) (dec_lt j (used_slots slots size)) e)
      where
        at : (k : ℕ) → Dec (k < used_slots slots size) → ℕ
        at k (yes l) = (used_at slots size k l).0
        at k (no n) = 0

        below : (k : ℕ) → k < used_slots slots size → (d : Dec (k < used_slots slots size)) → at k d < size
        below k l (yes b) = (used_at slots size k b).1
        below k l (no n) = absurd (n l)

        in_use : (k : ℕ) → k < used_slots slots size → (d : Dec (k < used_slots slots size)) → get_or slots (at k d) 0 ≡ 0 → ⊥
        in_use k l (yes b) = (used_at slots size k b).2
        in_use k l (no n) = absurd (n l)

        before : (k : ℕ) → k < used_slots slots size → (d : Dec (k < used_slots slots size)) → used_slots slots (at k d) ≡ k
        before k l (yes b) = (used_at slots size k b).3
        before k l (no n) = absurd (n l)

        small : (k : ℕ) → k < used_slots slots size → (d : Dec (k < used_slots slots size)) → get_or slots (at k d) 0 - 1 < count
        small k l d = let o = o.only (at k d) (below k l d) in let n = in_use k l d in omega arith

        apart : (k j : ℕ) → k < used_slots slots size → j < used_slots slots size → (d : Dec (k < used_slots slots size)) (e : Dec (j < used_slots slots size)) → get_or slots (at k d) 0 - 1 ≡ get_or slots (at j e) 0 - 1 → k ≡ j
        apart k j lk lj d e q =
            let n = in_use k lk d in
            let n' = in_use j lj e in
            let same = o.single (at k d) (at j e) (below k lk d) (below j lj e) n (omega arith) in
            sym (before k lk d) ∙ ap (used_slots slots) same ∙ before j lj e

    pub number_of : used_slots slots size ≡ count
    number_of = let a = at_least in let b = at_most in omega arith
