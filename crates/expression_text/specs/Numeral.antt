-- How a constant is printed: whole constants 0 to 999,999,999 (not -0.0) in fewest digits, others as # and hex in capitals.
use Rattle.std.specs.Prelude.{ℕ, zero, suc, ◌+◌, ◌/◌, ◌%◌, ◌≡◌, refl, Bool, true, false, ◌&&◌, cond, List, [], ◌∷◌, leb, eqb}
use Rattle.std.specs.Float.{binary64}
use Rattle.std.specs.Float.Ieee.{of_bits, to_unsigned}
use Rattle.text_language.specs.Grammar.{whole_bits}

abbrev pub most_whole : ℕ
most_whole = 999999999

-- a number is 1 to 9 digits, or # and 16 hex digits of binary64 bits
abbrev pub most_digits : ℕ
most_digits = 9

abbrev pub hex_digits : ℕ
hex_digits = 16

-- the byte before hex digits
abbrev pub number_sign : ℕ
number_sign = 35

-- the digits of n in front of w, at most k: the last first, and none in front of the first that is not 0
unfoldable pub decimals : ℕ → ℕ → List ℕ → List ℕ
decimals zero n w = w
decimals (suc k) n w = elim (eqb (n / 10) 0) [ true ↦ (48 + n % 10) ∷ w | false ↦ decimals k (n / 10) ((48 + n % 10) ∷ w) ]

-- 0 to 9, then A to F
abbrev pub hex_byte : ℕ → ℕ
hex_byte d = cond (leb d 9) (48 + d) (55 + d)

-- the last k hex digits of n in front of w
unfoldable pub hexes : ℕ → ℕ → List ℕ → List ℕ
hexes zero n w = w
hexes (suc k) n w = hexes k (n / 16) (hex_byte (n % 16) ∷ w)

-- the number that bits are, its fraction cut off
unfoldable pub whole_part : ℕ → ℕ
unfolding of_bits to_unsigned
whole_part b = to_unsigned 64 (of_bits binary64 b)

-- whether bits are those of a whole number that is printed in digits
unfoldable pub is_whole : ℕ → Bool
unfolding whole_part whole_bits
is_whole b = leb (whole_part b) most_whole && eqb (whole_bits (whole_part b)) b

unfoldable pub numeral : ℕ → List ℕ
unfolding is_whole decimals hexes
numeral b = elim (is_whole b) [ true ↦ decimals most_digits (whole_part b) [] | false ↦ number_sign ∷ hexes hex_digits b [] ]

-- ---- numerals, computed

-- 7
seven : numeral 0x401c000000000000 ≡ 55 ∷ []
unfolding numeral
seven = refl

-- -0.0 as #8000000000000000
minus_zero_lem : numeral 0x8000000000000000 ≡ 35 ∷ 56 ∷ 48 ∷ 48 ∷ 48 ∷ 48 ∷ 48 ∷ 48 ∷ 48 ∷ 48 ∷ 48 ∷ 48 ∷ 48 ∷ 48 ∷ 48 ∷ 48 ∷ 48 ∷ []
unfolding numeral
minus_zero_lem = refl

-- 10^9 as #41CDCD6500000000
billion : numeral 0x41cdcd6500000000 ≡ 35 ∷ 52 ∷ 49 ∷ 67 ∷ 68 ∷ 67 ∷ 68 ∷ 54 ∷ 53 ∷ 48 ∷ 48 ∷ 48 ∷ 48 ∷ 48 ∷ 48 ∷ 48 ∷ 48 ∷ []
unfolding numeral
billion = refl
