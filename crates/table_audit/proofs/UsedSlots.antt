-- The slots in use, counted.
use Prim.Native.Nat.{ℕ, zero, suc, ◌≤◌, ◌<◌}
use mathlib.Core.Path.{◌≡◌, refl, sym}
use mathlib.Core.List.{List}
use mathlib.Core.Logic.{◌⊎◌, inl, inr}
use lib.ListN.{get_or}
use native.Mathlib.Omega.{arith}
use native.Mathlib.Nat.{eq-or-lt_of_le, le_of_suc-le-suc}
use native.Mathlib.Decide.{dec_lt, ℕ_discrete}
use borrow.Author.Tests.{eq-eqb, ne_eqb}
use Rattle.table_audit.specs.Audit.{used_slots}

module _ (slots : List ℕ) where
  pub used_empty : (n : ℕ) → get_or slots n 0 ≡ 0 → used_slots slots (suc n) ≡ used_slots slots n
  unfolding used_slots
  used_empty n e = rw (eq-eqb (get_or slots n 0) 0 e) refl

  pub used_more : (n : ℕ) → (get_or slots n 0 ≡ 0 → ⊥) → used_slots slots (suc n) ≡ suc (used_slots slots n)
  unfolding used_slots
  used_more n e = rw (ne_eqb (get_or slots n 0) 0 e) refl

  pub used_none : used_slots slots 0 ≡ 0
  unfolding used_slots
  used_none = refl

  one_step : (n : ℕ) → Dec (get_or slots n 0 ≡ 0) → used_slots slots n ≤ used_slots slots (suc n)
  one_step n (yes e) = let u = used_empty n e in omega arith
  one_step n (no e) = let u = used_more n e in omega arith

  used_le : (p q : ℕ) → p ≤ q → used_slots slots p ≤ used_slots slots q
  used_le p zero l = let e : p ≡ 0 = omega arith in rw e (omega arith)
  used_le p (suc q) l = go (used_le p q) (eq-or-lt_of_le l)
    where
      go : (p ≤ q → used_slots slots p ≤ used_slots slots q) → (p ≡ suc q) ⊎ (p < suc q) → used_slots slots p ≤ used_slots slots (suc q)
      go rec (inl e) = rw e (omega arith)
      go rec (inr m) = let a = rec (le_of_suc-le-suc m) in let b = one_step q (ℕ_discrete (get_or slots q 0) 0) in omega arith

  -- a slot in use counts for each place after it
  pub used_lt : (p q : ℕ) → p < q → (get_or slots p 0 ≡ 0 → ⊥) → used_slots slots p < used_slots slots q
  used_lt p q l n = let a = used_more p n in let b = used_le (suc p) q l in omega arith

  -- so that as many before two slots in use makes them one
  pub used_apart : (p q : ℕ) → (get_or slots p 0 ≡ 0 → ⊥) → (get_or slots q 0 ≡ 0 → ⊥) → used_slots slots p ≡ used_slots slots q → p ≡ q
  used_apart p q np nq e = go (dec_lt p q) (dec_lt q p)
    where
      go : Dec (p < q) → Dec (q < p) → p ≡ q
      go (yes l) d = absurd (let u = used_lt p q l np in omega arith)
      go (no l) (yes m) = absurd (let u = used_lt q p m nq in omega arith)
      go (no l) (no m) = omega arith

  -- the slot in use that has so many before it
  pub used_at : (n k : ℕ) → k < used_slots slots n → (p : ℕ) × (p < n) × (get_or slots p 0 ≡ 0 → ⊥) × (used_slots slots p ≡ k)
  used_at zero k l = absurd (let u = used_none in omega arith)
  used_at (suc n) k l = go (used_at n k) (ℕ_discrete (get_or slots n 0) 0) (ℕ_discrete k (used_slots slots n))
    where
      later : (p : ℕ) × (p < n) × (get_or slots p 0 ≡ 0 → ⊥) × (used_slots slots p ≡ k) → (p : ℕ) × (p < suc n) × (get_or slots p 0 ≡ 0 → ⊥) × (used_slots slots p ≡ k)
      later r = (r.0, omega (arith, r.1), r.2, r.3)

      go : (k < used_slots slots n → (p : ℕ) × (p < n) × (get_or slots p 0 ≡ 0 → ⊥) × (used_slots slots p ≡ k)) → Dec (get_or slots n 0 ≡ 0) → Dec (k ≡ used_slots slots n) → (p : ℕ) × (p < suc n) × (get_or slots p 0 ≡ 0 → ⊥) × (used_slots slots p ≡ k)
      go rec (yes z) d = later (rec (let u = used_empty n z in omega arith))
      go rec (no z) (yes e) = (n, omega arith, z, sym e)
      go rec (no z) (no e) = later (rec (let u = used_more n z in omega arith))
