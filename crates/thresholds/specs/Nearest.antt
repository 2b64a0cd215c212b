-- The binary64 number nearest to a setting's, stated over whole numbers, for any scale of settings. Definitions only.
use Rattle.std.specs.Prelude.{ℕ, zero, suc, ◌+◌, ◌-◌, ◌*◌, ◌/◌, ◌%◌, ◌^◌, ◌≤◌, ◌<◌}
use Rattle.std.specs.Float.{binary64}
use Rattle.std.specs.Float.Ieee.{hid, low}

-- ---- a binary64 number as a whole number of units

-- The value of a number that is not negative, in units of the smallest positive one, 2 ^ -1074, from its exponent's field and
-- the digits below its leading one. A field of 0 has no leading digit, and counts as a field of 1.
unfoldable pub units_of_fields : ℕ → ℕ → ℕ
units_of_fields zero digits = digits
units_of_fields (suc exponent) digits = (hid binary64 + digits) * 2 ^ exponent

-- the same from the bit pattern
unfoldable pub units : ℕ → ℕ
unfolding units_of_fields
units pattern = units_of_fields (pattern / hid binary64) (pattern % hid binary64)

-- ---- the nearest number, stated over whole numbers

-- A scale of settings: setting n stands for the number 10 ^ ((slope · n - offset) / root).
pub record Scale : Type 0 where
  pub slope : ℕ
  pub offset : ℕ
  pub root : ℕ

-- The middle between numbers of a and b units is (a + b) / 2 ^ 1075. It is below the number of setting n exactly if
-- `raised scale (a + b)` is below `target scale n`: they are the two numbers to the power `root`, times 10 ^ offset · 2 ^ (1075 · root).
abbrev pub raised : Scale → ℕ → ℕ
raised scale sum = sum ^ scale.root * 10 ^ scale.offset

abbrev pub target : Scale → ℕ → ℕ
target scale n = 10 ^ (scale.slope * n) * 2 ^ ((low binary64 + 1) * scale.root)

-- "nearest": the number of setting n lies above the middle between the pattern's number and the next lower one, and below the
-- middle between it and the next higher one. Patterns of numbers that are not negative stand in the numbers' order, so the
-- neighbours are the patterns before and after.
pub record Nearest (scale : Scale) (n pattern : ℕ) : Type 0 where
  pub above_lower : raised scale (units (pattern - 1) + units pattern) < target scale n
  pub below_upper : target scale n < raised scale (units pattern + units (pattern + 1))

-- what a table is believed for, "for all entries by the same statement": its number for each setting from the first to the last is the
-- nearest
abbrev pub TableNearest : Scale → ℕ → ℕ → (ℕ → ℕ) → Type 0
TableNearest scale first last pattern = (n : ℕ) → first ≤ n → n ≤ last → Nearest scale n (pattern n)
