-- The search for a free place.
use Prim.Native.Nat.{ℕ, ◌+◌, ◌-◌, ◌%◌, ◌≤◌, ◌<◌}
use mathlib.Core.Path.{◌≡◌, ap, ◌∙◌}
use mathlib.Core.List.{List}
use lib.ListN.{get_or}
use native.Mathlib.Omega.{arith}
use native.Mathlib.Nat.{mod-lt}
use native.Mathlib.Decide.{dec_lt}
use borrow.Author.Count.{below_more}
use Rattle.slots.specs.Table.{InUse}
use Rattle.slots.specs.Insert.{free_window, FirstEmpty, Room, FirstFree}
use Rattle.slots.proofs.Rounds.{round_hits, round_from, round_to, round_window}

-- ---- round the table
module _ (slots : List ℕ) (size hash : ℕ) where
  pub none_passed : (far : ℕ) → far ≡ 0 → InUse slots size hash far
  none_passed far e d l = absurd (omega arith)

  -- fewer places than the table has are passed
  pub not_round : (far : ℕ) → Room slots size → InUse slots size hash far → far < size
  not_round far r u = go (dec_lt far size)
    where
      go : Dec (far < size) → far < size
      go (yes l) = l
      go (no n) =
          let x = round_hits hash r.place size r.below in
          let l = x.1 in
          absurd (u x.0 (omega arith) (ap (λ (y : ℕ). get_or slots y 0) x.2 ∙ r.empty))

  module _ (far : ℕ) (u : InUse slots size hash far) (at : ℕ) (is : at ≡ (hash + far) % size) where
    pub one_passed : (get_or slots at 0 ≡ 0 → ⊥) → InUse slots size hash (far + 1)
    one_passed n = below_more _ _ u (λ z. n (ap (λ (x : ℕ). get_or slots x 0) is ∙ z))

    pub free_met : Room slots size → get_or slots at 0 ≡ 0 → FirstFree slots size hash at
    free_met r z = record { far = far; near = not_round far r u; is = is; empty = z; used = u }

  -- a free place is one of the table
  pub free_in : (at : ℕ) → FirstFree slots size hash at → at < size
  free_in at f = let n = f.near in rw f.is (mod-lt _ (omega arith))

  -- ---- from the hash's place in the table
  module _ (home : ℕ) (is : home ≡ hash % size) where
    pub home_in : Room slots size → home < size
    home_in r = let l = r.below in rw is (mod-lt _ (omega arith))

    pub free_onward : (at : ℕ) → FirstFree slots size home at → FirstFree slots size hash at
    free_onward at f = record {
      far = f.far;
      near = f.near;
      is = f.is ∙ round_from hash home f.far size is;
      empty = f.empty;
      used = λ d l z. f.used d l (ap (λ (x : ℕ). get_or slots x 0) (round_from hash home d size is) ∙ z);
    }

  -- ---- a window that ends within the table, the slots before it in use
  module _ (at : ℕ) (from : hash % size ≤ at) (u : InUse slots size hash (at - hash % size)) (inside : at + free_window ≤ size) (first : ℕ) (e : FirstEmpty free_window slots at first) where
    -- its slots before the first empty one are passed too
    pub window_passed : (count : ℕ) → count ≤ first → InUse slots size hash (at + count - hash % size)
    window_passed count l = round_window hash size (λ (slot : ℕ). slot ≡ 0 → ⊥) slots at count from (let w = e.within in omega arith) u (λ i b. e.used i (omega arith))

    pub free_in_window : first < free_window → FirstFree slots size hash (at + first)
    free_in_window l = record {
      far = at + first - hash % size;
      near = omega arith;
      is = round_to hash size (at + first) (omega arith) (omega arith);
      empty = e.empty l;
      used = window_passed first (omega arith);
    }
