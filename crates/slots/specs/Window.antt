-- Slots looked at together, as the binary digits of one number.
use Rattle.std.specs.Prelude.{ℕ, zero, suc, ◌+◌, ◌*◌, List, get_or}

-- a quarter of the slots looked at together
abbrev pub quarter : ℕ
quarter = 4

-- how many values its binary digits have
abbrev pub quarter_values : ℕ
quarter_values = 16

-- how many values all of their binary digits have
abbrev pub window_values : ℕ
window_values = 65536

-- 1 for an empty slot, else 0
unfoldable pub empty_digit : ℕ → ℕ
empty_digit zero = 1
empty_digit (suc slot) = 0

-- so many slots from a place on, the lowest digit first
unfoldable pub empty_digits : ℕ → List ℕ → ℕ → ℕ
empty_digits zero slots home = 0
empty_digits (suc n) slots home = empty_digit (get_or slots home 0) + 2 * empty_digits n slots (home + 1)
