-- The first empty slot of some, by the binary digits that they make.
use Prim.Native.Nat.{ℕ, zero, suc, ◌+◌, ◌*◌, ◌^◌, ◌≤◌, ◌<◌}
use mathlib.Core.Path.{◌≡◌, refl, sym, ap, ◌∙◌}
use mathlib.Core.List.{List}
use lib.ListN.{get_or}
use lib.Count.{count_trailing_zeros}
use native.Mathlib.Omega.{arith}
use native.Mathlib.Nat.{one-mul, zero-mul, add-zero, add_assoc, pow-suc}
use native.Mathlib.Decide.{ℕ_discrete}
use Rattle.slots.specs.Insert.{free_window, FirstEmpty}
use Rattle.slots.specs.Window.{quarter, window_values, empty_digit, empty_digits}
use Rattle.slots.proofs.TrailingZeros.{zeros_over_one, zeros_over_zero}

-- ---- a slot's digit
digit_of_empty : (slot : ℕ) → slot ≡ 0 → empty_digit slot ≡ 1
unfolding empty_digit
digit_of_empty zero e = refl
digit_of_empty (suc slot) e = absurd (omega arith)

digit_of_used : (slot : ℕ) → (slot ≡ 0 → ⊥) → empty_digit slot ≡ 0
unfolding empty_digit
digit_of_used zero n = absurd (n refl)
digit_of_used (suc slot) n = refl

digit_most : (slot : ℕ) → empty_digit slot ≤ 1
unfolding empty_digit
digit_most zero = omega arith
digit_most (suc slot) = omega arith

pub weight_of_empty : (slot weight : ℕ) → slot ≡ 0 → weight ≡ empty_digit slot * weight
weight_of_empty slot weight e = sym (ap (λ (d : ℕ). d * weight) (digit_of_empty slot e) ∙ one-mul weight)

pub weight_of_used : (slot weight : ℕ) → (slot ≡ 0 → ⊥) → 0 ≡ empty_digit slot * weight
weight_of_used slot weight n = sym (ap (λ (d : ℕ). d * weight) (digit_of_used slot n) ∙ zero-mul weight)

-- ---- the digits of a window
module _ (slots : List ℕ) where
  -- the digit of the slot at a place
  abbrev digit : ℕ → ℕ
  digit at = empty_digit (get_or slots at 0)

  pub quarter_is : (from : ℕ) → digit from * 1 + digit (from + 1) * 2 + digit (from + 2) * 4 + digit (from + 3) * 8 ≡ empty_digits quarter slots from
  unfolding empty_digits
  quarter_is from = simp add_assoc (omega arith)

  pub window_is : (home : ℕ) → ((empty_digits quarter slots (home + 12) * 16 + empty_digits quarter slots (home + 8)) * 16 + empty_digits quarter slots (home + 4)) * 16 + empty_digits quarter slots home ≡ empty_digits free_window slots home
  unfolding empty_digits
  window_is home = simp add_assoc (omega arith)

  -- so many digits are below the digit past them
  digits_below : (n home : ℕ) → empty_digits n slots home < 2 ^ n
  unfolding empty_digits
  digits_below zero home = omega arith
  digits_below (suc n) home = let h = digits_below n (home + 1) in let d = digit_most (get_or slots home 0) in let p = pow-suc 2 n in omega arith

  pub window_below : (home : ℕ) → empty_digits free_window slots home < window_values
  window_below home = digits_below free_window home

-- ---- the first empty slot
module _ (slots : List ℕ) (home : ℕ) where
  none_left : FirstEmpty 0 slots home 0
  none_left = record { within = omega arith; used = λ i l. absurd (omega arith); empty = λ l. absurd (omega arith) }

  empty_met : (n : ℕ) → get_or slots home 0 ≡ 0 → FirstEmpty (suc n) slots home 0
  empty_met n e = record { within = omega arith; used = λ i l. absurd (omega arith); empty = λ l. rw add-zero e }

  used_met : (n first : ℕ) → (get_or slots home 0 ≡ 0 → ⊥) → FirstEmpty n slots (home + 1) first → FirstEmpty (suc n) slots home (suc first)
  used_met n first u f = record { within = let l = f.within in omega arith; used = go; empty = λ l. rw (next first) at (f.empty (omega arith)) }
    where
      next : (i : ℕ) → home + 1 + i ≡ home + suc i
      next i = omega arith

      go : (i : ℕ) → i < suc first → get_or slots (home + i) 0 ≡ 0 → ⊥
      go zero l e = u (rw add-zero at e)
      go (suc i) l e = f.used i (omega arith) (rw (next i) e)

module _ (slots : List ℕ) where
  -- the trailing zeros of the digits, where the digit past them is 1
  first_of : (n k home : ℕ) → n < k → FirstEmpty n slots home (count_trailing_zeros k (empty_digits n slots home + 2 ^ n))
  unfolding empty_digits
  first_of n zero home l = absurd (omega arith)
  first_of zero (suc k) home l = rw (zeros_over_one k 1 0 refl) (none_left slots home)
  first_of (suc n) (suc k) home l = go (ℕ_discrete (get_or slots home 0) 0) (first_of n k (home + 1) (omega arith))
    where
      over : empty_digit (get_or slots home 0) + 2 * empty_digits n slots (home + 1) + 2 ^ suc n ≡ empty_digit (get_or slots home 0) + 2 * (empty_digits n slots (home + 1) + 2 ^ n)
      over = let p = pow-suc 2 n in omega arith

      go : Dec (get_or slots home 0 ≡ 0) → FirstEmpty n slots (home + 1) (count_trailing_zeros k (empty_digits n slots (home + 1) + 2 ^ n)) → FirstEmpty (suc n) slots home (count_trailing_zeros (suc k) (empty_digit (get_or slots home 0) + 2 * empty_digits n slots (home + 1) + 2 ^ suc n))
      go (yes e) h = rw (over, zeros_over_one k _ _ (digit_of_empty _ e)) (empty_met slots home n e)
      go (no o) h = rw (over, zeros_over_zero k _ _ (digit_of_used _ o)) (used_met slots home n _ o h)

  pub first_empty_is : (home found : ℕ) → found ≡ empty_digits free_window slots home → FirstEmpty free_window slots home (count_trailing_zeros 32 (found + window_values))
  first_empty_is home found is = rw is (first_of free_window 32 home (omega arith))
