-- Places round a table.
use Prim.Native.Nat.{ℕ, ◌+◌, ◌-◌, ◌%◌, ◌≤◌, ◌<◌}
use mathlib.Core.Path.{◌≡◌, sym, ap, ◌∙◌, subst}
use mathlib.Core.List.{List}
use lib.ListN.{get_or}
use native.Mathlib.Omega.{arith}
use native.Mathlib.Nat.{mod-lt, mod-add-mod, add-mod-mod, add-mod_right, mod-eq_of_lt}
use native.Mathlib.Decide.{dec_lt}
use Rattle.slots.specs.Table.{slot_from}

-- so many places onward from a hash's own place
pub round_from : (h home d size : ℕ) → home ≡ h % size → (home + d) % size ≡ (h + d) % size
round_from h home d size is = ap (λ (x : ℕ). (x + d) % size) is ∙ mod-add-mod h size d

-- ---- before the table's end
module _ (h size : ℕ) where
  round_inside : (d : ℕ) → h % size + d < size → h % size + d ≡ (h + d) % size
  round_inside d l = sym (mod-eq_of_lt l) ∙ mod-add-mod h size d

  -- a place from a hash's own place on
  pub round_to : (place : ℕ) → h % size ≤ place → place < size → place ≡ (h + (place - h % size)) % size
  round_to place from l = (let e : place ≡ h % size + (place - h % size) = omega arith in e) ∙ round_inside (place - h % size) (omega arith)

  -- what holds of the slots up to a place, and of a window from there on, holds of those up to the window's end
  pub round_window : (P : ℕ → Type 0) (slots : List ℕ) (at count : ℕ) → h % size ≤ at → at + count ≤ size → ((d : ℕ) → d < at - h % size → P (slot_from slots size h d)) → ((i : ℕ) → i < count → P (get_or slots (at + i) 0)) → (d : ℕ) → d < at + count - h % size → P (slot_from slots size h d)
  round_window P slots at count from inside before window d l = by (dec_lt d (at - h % size))
    where
      by : Dec (d < at - h % size) → P (slot_from slots size h d)
      by (yes b) = before d b
      by (no b) =
          let e : at + (d + h % size - at) ≡ h % size + d = omega arith in
          subst (λ (x : ℕ). P (get_or slots x 0)) (e ∙ round_inside d (omega arith)) (window (d + h % size - at) (omega arith))

-- every place is met from every hash
pub round_hits : (h p size : ℕ) → p < size → (d : ℕ) × (d < size) × ((h + d) % size ≡ p)
round_hits h p size l =
    let pos : 0 < size = omega arith in
    let rl : h % size < size = mod-lt h pos in
    let e : h % size + (p + (size - h % size)) ≡ p + size = omega arith in (
      (p + (size - h % size)) % size,
      mod-lt _ pos,
      add-mod-mod h (p + (size - h % size)) size
          ∙ sym (mod-add-mod h size (p + (size - h % size)))
          ∙ ap (λ (x : ℕ). x % size) e
          ∙ add-mod_right p size
          ∙ mod-eq_of_lt l,
    )
