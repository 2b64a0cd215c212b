-- What texts at the end of each rule of request c meet, computed.
use Rattle.std.specs.Prelude.{ℕ, zero, suc, ◌≡◌, refl, true, false, List, [], ◌∷◌, ◌++◌}
use Rattle.text_language.specs.Grammar.{sums, products, Expr, constant, variable, negated, linked, raised}
use Rattle.text_language.specs.Reader.{after}
use Rattle.text_language.specs.Reading.{Verdict, refuses, denotes, verdict}

-- so many of a byte, before the rest
abbrev times : ℕ → ℕ → List ℕ → List ℕ
times zero c r = r
times (suc n) c r = c ∷ times n c r

-- a pair of bytes so often, before the rest
abbrev pairs : ℕ → ℕ → ℕ → List ℕ → List ℕ
pairs zero c d r = r
pairs (suc n) c d r = c ∷ d ∷ pairs n c d r

abbrev x : Expr
x = variable (120 ∷ [])

abbrev negations : ℕ → Expr → Expr
negations zero e = e
negations (suc n) e = negated (negations n e)

abbrev powers : ℕ → Expr
powers zero = x
powers (suc n) = raised x (powers n)

-- # and 16 digits, of which the last ones are 0
abbrev bits : List ℕ → ℕ → List ℕ
bits s zeros = 35 ∷ (s ++ times zeros 48 [])

-- ---- nesting: 64 of each, and 65; a ^ nests what stands after it, and not its base

minuses_64 : verdict (times 64 45 (120 ∷ [])) ≡ denotes (negations 64 x)
unfolding verdict after
minuses_64 = refl

minuses_65 : verdict (times 65 45 (120 ∷ [])) ≡ refuses 12
unfolding verdict after
minuses_65 = refl

brackets_64 : verdict (times 64 40 (120 ∷ times 64 41 [])) ≡ denotes x
unfolding verdict after
brackets_64 = refl

brackets_65 : verdict (times 65 40 (120 ∷ times 65 41 [])) ≡ refuses 12
unfolding verdict after
brackets_65 = refl

powers_64 : verdict (pairs 64 120 94 (120 ∷ [])) ≡ denotes (powers 64)
unfolding verdict after
powers_64 = refl

powers_65 : verdict (pairs 65 120 94 (120 ∷ [])) ≡ refuses 12
unfolding verdict after
powers_65 = refl

base_not_nested : verdict (times 64 45 (120 ∷ 94 ∷ 120 ∷ [])) ≡ denotes (raised (negations 64 x) x)
unfolding verdict after
base_not_nested = refl

mixed_65 : verdict (pairs 32 45 40 (120 ∷ 94 ∷ 120 ∷ times 32 41 [])) ≡ refuses 12
unfolding verdict after
mixed_65 = refl

-- ---- the order of 1, 11, 12 and 10

unclosed_before_deep : verdict (times 65 40 (120 ∷ times 64 41 [])) ≡ refuses 11
unfolding verdict after
unclosed_before_deep = refl

deep_before_nan : verdict (times 65 45 (bits (55 ∷ 70 ∷ 70 ∷ 56 ∷ []) 12)) ≡ refuses 12
unfolding verdict after
deep_before_nan = refl

empty_text : verdict [] ≡ refuses 1
unfolding verdict after
empty_text = refl

-- ---- numbers: 1 to 9 digits, or # and 16 hex digits of either case; no NaN

leading_zeros : verdict (48 ∷ 48 ∷ 55 ∷ []) ≡ denotes (constant 0x401c000000000000)
unfolding verdict after
leading_zeros = refl

nine_digits : verdict (times 9 57 []) ≡ denotes (constant 0x41cdcd64ff800000)
unfolding verdict after
nine_digits = refl

ten_digits : verdict (times 10 57 []) ≡ refuses 11
unfolding verdict after
ten_digits = refl

blank_in_number : verdict (49 ∷ 32 ∷ 50 ∷ []) ≡ refuses 11
unfolding verdict after
blank_in_number = refl

hex_of_both_cases : verdict (35 ∷ 51 ∷ 102 ∷ 102 ∷ 65 ∷ 98 ∷ 67 ∷ 100 ∷ 69 ∷ 102 ∷ 48 ∷ 49 ∷ 50 ∷ 51 ∷ 52 ∷ 53 ∷ 54 ∷ []) ≡ denotes (constant 0x3ffabcdef0123456)
unfolding verdict after
hex_of_both_cases = refl

hex_first_and_last : verdict (bits (48 ∷ 102 ∷ 57 ∷ 70 ∷ 97 ∷ 65 ∷ []) 10) ≡ denotes (constant 0x0f9faa0000000000)
unfolding verdict after
hex_first_and_last = refl

no_hex_g : verdict (35 ∷ times 15 48 (103 ∷ [])) ≡ refuses 11
unfolding verdict after
no_hex_g = refl

no_hex_capital_g : verdict (35 ∷ times 15 48 (71 ∷ [])) ≡ refuses 11
unfolding verdict after
no_hex_capital_g = refl

hex_15 : verdict (bits [] 15) ≡ refuses 11
unfolding verdict after
hex_15 = refl

hex_17 : verdict (bits [] 17) ≡ refuses 11
unfolding verdict after
hex_17 = refl

blank_in_bits : verdict (35 ∷ 32 ∷ times 16 48 []) ≡ refuses 11
unfolding verdict after
blank_in_bits = refl

minus_zero_lem : verdict (bits (56 ∷ []) 15) ≡ denotes (constant 0x8000000000000000)
unfolding verdict after
minus_zero_lem = refl

infinity : verdict (bits (55 ∷ 70 ∷ 70 ∷ []) 13) ≡ denotes (constant 0x7ff0000000000000)
unfolding verdict after
infinity = refl

quiet_nan : verdict (bits (55 ∷ 70 ∷ 70 ∷ 56 ∷ []) 12) ≡ refuses 10
unfolding verdict after
quiet_nan = refl

negative_nan : verdict (35 ∷ 102 ∷ 102 ∷ 102 ∷ times 12 48 (49 ∷ [])) ≡ refuses 10
unfolding verdict after
negative_nan = refl

-- ---- names: a letter, then letters or digits, 32 at most; the bytes beside A, Z, a, z, 0 and 9 are none

name_32 : verdict (times 32 97 []) ≡ denotes (variable (times 32 97 []))
unfolding verdict after
name_32 = refl

name_33 : verdict (times 33 97 []) ≡ refuses 11
unfolding verdict after
name_33 = refl

letters_and_digits : verdict (65 ∷ 90 ∷ 97 ∷ 122 ∷ 48 ∷ 57 ∷ []) ≡ denotes (variable (65 ∷ 90 ∷ 97 ∷ 122 ∷ 48 ∷ 57 ∷ []))
unfolding verdict after
letters_and_digits = refl

below_capitals : verdict (64 ∷ []) ≡ refuses 11
unfolding verdict after
below_capitals = refl

above_capitals : verdict (91 ∷ []) ≡ refuses 11
unfolding verdict after
above_capitals = refl

below_small : verdict (96 ∷ []) ≡ refuses 11
unfolding verdict after
below_small = refl

above_small : verdict (123 ∷ []) ≡ refuses 11
unfolding verdict after
above_small = refl

in_a_name_below_capitals : verdict (120 ∷ 64 ∷ []) ≡ refuses 11
unfolding verdict after
in_a_name_below_capitals = refl

in_a_name_above_capitals : verdict (120 ∷ 91 ∷ []) ≡ refuses 11
unfolding verdict after
in_a_name_above_capitals = refl

in_a_name_below_small : verdict (120 ∷ 96 ∷ []) ≡ refuses 11
unfolding verdict after
in_a_name_below_small = refl

in_a_name_above_small : verdict (120 ∷ 123 ∷ []) ≡ refuses 11
unfolding verdict after
in_a_name_above_small = refl

in_a_name_above_digits : verdict (120 ∷ 58 ∷ []) ≡ refuses 11
unfolding verdict after
in_a_name_above_digits = refl

-- ---- blanks, and bytes that are none

blank_alone : verdict (32 ∷ []) ≡ refuses 11
unfolding verdict after
blank_alone = refl

tab : verdict (9 ∷ 120 ∷ []) ≡ refuses 11
unfolding verdict after
tab = refl

byte_0 : verdict (120 ∷ 0 ∷ []) ≡ refuses 11
unfolding verdict after
byte_0 = refl

blanks_between : verdict (32 ∷ 50 ∷ 32 ∷ 42 ∷ 32 ∷ 40 ∷ 32 ∷ 120 ∷ 32 ∷ 41 ∷ 32 ∷ []) ≡ denotes (linked products false (constant 0x4000000000000000) x)
unfolding verdict after
blanks_between = refl

-- ---- signs

two_operands : verdict (120 ∷ 32 ∷ 121 ∷ []) ≡ refuses 11
unfolding verdict after
two_operands = refl

no_call : verdict (120 ∷ 40 ∷ 120 ∷ 41 ∷ []) ≡ refuses 11
unfolding verdict after
no_call = refl

plus_first : verdict (43 ∷ 120 ∷ []) ≡ refuses 11
unfolding verdict after
plus_first = refl

slash_last : verdict (120 ∷ 47 ∷ []) ≡ refuses 11
unfolding verdict after
slash_last = refl

power_then_sum : verdict (120 ∷ 94 ∷ 121 ∷ 43 ∷ 122 ∷ []) ≡ denotes (linked sums false (raised x (variable (121 ∷ []))) (variable (122 ∷ [])))
unfolding verdict after
power_then_sum = refl

minus_exponent : verdict (120 ∷ 94 ∷ 45 ∷ 120 ∷ []) ≡ denotes (raised x (negated x))
unfolding verdict after
minus_exponent = refl

products_left : verdict (120 ∷ 47 ∷ 120 ∷ 42 ∷ 120 ∷ []) ≡ denotes (linked products false (linked products true x x) x)
unfolding verdict after
products_left = refl
