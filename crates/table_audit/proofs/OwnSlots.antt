-- Whether the search for a node meets the slot of its own id.
use Prim.Native.Nat.{ℕ, suc, ◌+◌, ◌-◌, ◌%◌, ◌≤◌, ◌<◌}
use mathlib.Core.Path.{◌≡◌, refl, sym, ap, ◌∙◌, subst}
use mathlib.Core.Bool.{true, false, false≢true}
use mathlib.Core.List.{List}
use lib.ListN.{get_or}
use native.Mathlib.Omega.{arith}
use native.Mathlib.Decide.{dec_lt}
use borrow.Author.Count.{below_more}
use Rattle.definitions.specs.Says.{Says}
use Rattle.definitions.proofs.Deciding.{says_yes, says_no}
use Rattle.arena.specs.Node.{node_at, one}
use Rattle.arena.specs.Nodes.{AllWellFormed}
use Rattle.arena.proofs.OneNode.{one_sym}
use Rattle.slots.specs.Table.{slot_from, Placed, hash_at}
use Rattle.slots.specs.Held.{holds}
use Rattle.table_audit.specs.Audit.{LowerOther, LowerBefore, MeetsOwn}
use Rattle.slots.proofs.Held.{holds_known}

-- nodes below an id
pub formed_below : (w : List ℕ) (id count : ℕ) → id ≤ count → AllWellFormed w count → AllWellFormed w id
formed_below w id count l f = record { many = let m = f.many in omega arith; fits = let m = f.fits in omega arith; each = λ i b. f.each i (omega arith) }

module _ (w slots : List ℕ) (size : ℕ) where
  -- the slot of an id, before it only lower ones
  pub own_placed : (id : ℕ) → MeetsOwn w slots size id → Placed slots size (hash_at w id) (suc id)
  own_placed id m = record { far = m.far; near = m.near; here = m.here; earlier = λ d l. let b = m.before d l in let u = b.used in let k = b.lower in (u, omega arith) }

  -- two nodes that are one and each meet their own slot are the same node
  pub own_apart : (i j : ℕ) → hash_at w i ≡ hash_at w j → one (node_at w i) (node_at w j) ≡ true → MeetsOwn w slots size i → MeetsOwn w slots size j → i ≡ j
  own_apart i j h o a b = go (dec_lt a.far b.far) (dec_lt b.far a.far)
    where
      -- the slot of one of them is no slot that the other passes
      not_passed : (k n far : ℕ) → slot_from slots size (hash_at w n) far ≡ suc k → one (node_at w k) (node_at w n) ≡ true → LowerOther w n (slot_from slots size (hash_at w n) far) → ⊥
      not_passed k n far e same l =
          let id : slot_from slots size (hash_at w n) far - 1 ≡ k = omega arith in
          false≢true (sym l.other ∙ ap (λ (x : ℕ). one (node_at w x) (node_at w n)) id ∙ same)

      go : Dec (a.far < b.far) → Dec (b.far < a.far) → i ≡ j
      go (yes l) d = absurd (not_passed i j a.far (ap (λ (x : ℕ). slot_from slots size x a.far) (sym h) ∙ a.here) o (b.before a.far l))
      go (no l) (yes m) = absurd (not_passed j i b.far (ap (λ (x : ℕ). slot_from slots size x b.far) h ∙ b.here) (one_sym (node_at w i) (node_at w j) o) (a.before b.far m))
      go (no l) (no m) =
          let e : a.far ≡ b.far = omega arith in
          let z : suc i ≡ suc j = sym a.here ∙ ap (λ (x : ℕ). slot_from slots size x a.far) h ∙ ap (slot_from slots size (hash_at w j)) e ∙ b.here in
          omega arith

  module _ (id : ℕ) where
    module _ (far : ℕ) (before : LowerBefore w slots size id far) where
      -- the own slot is none of those passed
      not_before : (m : MeetsOwn w slots size id) → m.far < far → ⊥
      not_before m l = let b = (before m.far l).lower in let h = m.here in omega arith

      pub meets_nowhere : far ≡ size → Says false (MeetsOwn w slots size id)
      meets_nowhere e = says_no (λ m. not_before m (let l = m.near in omega arith))

      module _ (at : ℕ) (place : at ≡ (hash_at w id + far) % size) where
        there : get_or slots at 0 ≡ slot_from slots size (hash_at w id) far
        there = ap (λ (x : ℕ). get_or slots x 0) place

        pub meets_here : far < size → get_or slots at 0 ≡ suc id → Says true (MeetsOwn w slots size id)
        meets_here l e = says_yes (record { far = far; near = l; here = sym there ∙ e; before = before })

        -- a slot that is neither the own one nor of another lower node
        meets_other : (get_or slots at 0 ≡ suc id → ⊥) → (LowerOther w id (get_or slots at 0) → ⊥) → Says false (MeetsOwn w slots size id)
        meets_other not_own not_lower = says_no (λ m. go m (dec_lt m.far far) (dec_lt far m.far))
          where
            go : (m : MeetsOwn w slots size id) → Dec (m.far < far) → Dec (far < m.far) → ⊥
            go m (yes l) d = not_before m l
            go m (no l) (yes k) = not_lower (subst (LowerOther w id) (sym there) (m.before far k))
            go m (no l) (no k) = let e : m.far ≡ far = omega arith in not_own (there ∙ ap (slot_from slots size (hash_at w id)) (sym e) ∙ m.here)

        pub meets_empty : get_or slots at 0 ≡ 0 → Says false (MeetsOwn w slots size id)
        meets_empty z = meets_other (λ e. omega arith) (λ o. let u = o.used in omega arith)

        pub meets_greater : suc id < get_or slots at 0 → Says false (MeetsOwn w slots size id)
        meets_greater l = meets_other (λ e. omega arith) (λ o. let u = o.lower in omega arith)

        module _ (used : 0 < get_or slots at 0) (lower : get_or slots at 0 ≤ id) where
          compared : one (node_at w (get_or slots at 0 - 1)) (node_at w id) ≡ holds w id (node_at w id) (get_or slots at 0)
          compared = holds_known w id (node_at w id) (get_or slots at 0) (get_or slots at 0 - 1) used refl (omega arith)

          pub meets_one : holds w id (node_at w id) (get_or slots at 0) ≡ true → Says false (MeetsOwn w slots size id)
          meets_one h = meets_other (λ e. omega arith) (λ o. false≢true (sym o.other ∙ compared ∙ h))

          pub one_more : holds w id (node_at w id) (get_or slots at 0) ≡ false → LowerBefore w slots size id (far + 1)
          one_more h = below_more _ _ before (subst (LowerOther w id) there (record { used = used; lower = lower; other = compared ∙ h }))
