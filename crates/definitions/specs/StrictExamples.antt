-- Cases of the strict patterns, each computed: what fires, and what stays though patterns.rs would rewrite it.
use Rattle.std.specs.Prelude.{ℕ, ◌≡◌, refl, false, true, List, [], ◌∷◌, ◌++◌, map, take, drop}
use Rattle.std.proofs.Math.Option.{some}
use Rattle.definitions.specs.Walk.{standard, strict}
use Rattle.definitions.specs.Machine.{variable, constant, add, mul, neg, operator, function, Call, store, simplify, Answer, stored, simplified, refused, empty, answers, run}
use Rattle.definitions.specs.Sheet.{sheet}
use Rattle.definitions.specs.Listing.{listing}
use Rattle.definitions.specs.Strict.{minus_zero_bits, plus_zero_bits, one_bits}
use Rattle.definitions.specs.Examples.{lent, half, two, sheet_bytes}

abbrev infinity_bits : ℕ
infinity_bits = 0x7FF0000000000000

abbrev minus_infinity_bits : ℕ
minus_infinity_bits = 0xFFF0000000000000

-- -1.0, 5.0 and 2^1023
abbrev minus_one_bits : ℕ
minus_one_bits = 0xBFF0000000000000

abbrev five_bits : ℕ
five_bits = 0x4014000000000000

abbrev greatest_power_bits : ℕ
greatest_power_bits = 0x7FE0000000000000

-- a variable, a constant, an operator over both, and its strict walk
abbrev variable_left : ℕ → ℕ → List Call
variable_left code b = store (variable 0) ∷ store (constant b) ∷ store (operator code 0 (0 ∷ 1 ∷ [])) ∷ simplify strict 2 255 100 ∷ []

abbrev variable_right : ℕ → ℕ → List Call
variable_right code b = store (variable 0) ∷ store (constant b) ∷ store (operator code 0 (1 ∷ 0 ∷ [])) ∷ simplify strict 2 255 100 ∷ []

abbrev walked_to : ℕ → List Answer
walked_to i = stored 0 ∷ stored 1 ∷ stored 2 ∷ simplified i false 3 ∷ []

-- x + (-0.0), (-0.0) + x, x - (+0.0), x·1, 1·x, x/1
pub identities_fire : map (answers lent empty) (variable_left 0 minus_zero_bits ∷ variable_right 0 minus_zero_bits ∷ variable_left 1 plus_zero_bits ∷ variable_left 2 one_bits ∷ variable_right 2 one_bits ∷ variable_left 3 one_bits ∷ [])
    ≡ walked_to 0 ∷ walked_to 0 ∷ walked_to 0 ∷ walked_to 0 ∷ walked_to 0 ∷ walked_to 0 ∷ []
unfolding answers
identities_fire = refl

-- x + 0.0, 0.0 + x, x - (-0.0), 0.0 - x, (-0.0) - x, 0·x, x·0, x·(-1), 0/x and 1/x stay
pub others_stay : map (answers lent empty) (variable_left 0 plus_zero_bits ∷ variable_right 0 plus_zero_bits ∷ variable_left 1 minus_zero_bits ∷ variable_right 1 plus_zero_bits ∷ variable_right 1 minus_zero_bits
    ∷ variable_right 2 plus_zero_bits ∷ variable_left 2 plus_zero_bits ∷ variable_left 2 minus_one_bits ∷ variable_right 3 plus_zero_bits ∷ variable_right 3 one_bits ∷ [])
    ≡ walked_to 2 ∷ walked_to 2 ∷ walked_to 2 ∷ walked_to 2 ∷ walked_to 2 ∷ walked_to 2 ∷ walked_to 2 ∷ walked_to 2 ∷ walked_to 2 ∷ walked_to 2 ∷ []
unfolding answers
others_stay = refl

-- two constants by an operator, and its strict walk; then the expected constant
abbrev constants : ℕ → ℕ → ℕ → ℕ → List Call
constants code a b expected = store (constant a) ∷ store (constant b) ∷ store (operator code 0 (0 ∷ 1 ∷ [])) ∷ simplify strict 2 255 100 ∷ store (constant expected) ∷ []

abbrev folded_to : ℕ → List Answer
folded_to i = stored 0 ∷ stored 1 ∷ stored 2 ∷ simplified i false 3 ∷ stored i ∷ []

-- 0.5 + 2, 0.5 - 2, 0.5·2, 0.5/2; 0·(-1) and (-0.0)/5, which are -0.0 here and 0.0 by patterns.rs; 2^1023·2, an infinity
pub folds : map (answers lent empty) (constants 0 half two 0x4004000000000000 ∷ constants 1 half two 0xBFF8000000000000 ∷ constants 2 half two one_bits ∷ constants 3 half two 0x3FD0000000000000
    ∷ constants 2 plus_zero_bits minus_one_bits minus_zero_bits ∷ constants 3 minus_zero_bits five_bits minus_zero_bits ∷ constants 2 greatest_power_bits two infinity_bits ∷ [])
    ≡ folded_to 3 ∷ folded_to 3 ∷ folded_to 3 ∷ folded_to 3 ∷ folded_to 3 ∷ folded_to 0 ∷ folded_to 3 ∷ []
unfolding answers
folds = refl

-- 0.0 + (-0.0): the identity answers 0.0, where patterns.rs answers -0.0
pub zero_kept : answers lent empty (constants 0 plus_zero_bits minus_zero_bits plus_zero_bits) ≡ folded_to 0
unfolding answers
zero_kept = refl

-- inf + -inf, 0·inf, inf/-inf (a NaN each), 0.5/0.0 and 0.5/(-0.0) stay, and so do Pow and Mod of two constants
abbrev stays : ℕ → ℕ → ℕ → List Call
stays code a b = store (constant a) ∷ store (constant b) ∷ store (operator code 0 (0 ∷ 1 ∷ [])) ∷ simplify strict 2 255 100 ∷ []

pub no_folds : map (answers lent empty) (stays 0 infinity_bits minus_infinity_bits ∷ stays 2 plus_zero_bits infinity_bits ∷ stays 3 infinity_bits minus_infinity_bits ∷ stays 3 half plus_zero_bits
    ∷ stays 3 half minus_zero_bits ∷ stays 4 half two ∷ stays 5 half two ∷ [])
    ≡ walked_to 2 ∷ walked_to 2 ∷ walked_to 2 ∷ walked_to 2 ∷ walked_to 2 ∷ walked_to 2 ∷ walked_to 2 ∷ []
unfolding answers
no_folds = refl

-- double Neg; x - x, inf - inf and inf/inf of one id, the Neg of a constant, a sum or product of one operand or of three, and the merges of
-- (x + 0.5) + 2 and (x·0.5)·2 stay
pub whole_cases :
    map (answers lent empty)
    ((store (variable 0) ∷ store (neg 0) ∷ store (neg 1) ∷ simplify strict 2 255 100 ∷ [])
    ∷ (store (variable 0) ∷ store (operator 1 0 (0 ∷ 0 ∷ [])) ∷ simplify strict 1 255 100 ∷ [])
    ∷ (store (constant infinity_bits) ∷ store (operator 1 0 (0 ∷ 0 ∷ [])) ∷ simplify strict 1 255 100 ∷ [])
    ∷ (store (constant infinity_bits) ∷ store (operator 3 0 (0 ∷ 0 ∷ [])) ∷ simplify strict 1 255 100 ∷ [])
    ∷ (store (constant half) ∷ store (neg 0) ∷ simplify strict 1 255 100 ∷ [])
    ∷ (store (constant minus_zero_bits) ∷ store (operator 0 0 (0 ∷ [])) ∷ simplify strict 1 255 100 ∷ [])
    ∷ (store (constant one_bits) ∷ store (operator 2 0 (0 ∷ [])) ∷ simplify strict 1 255 100 ∷ [])
    ∷ (store (variable 0) ∷ store (constant minus_zero_bits) ∷ store (operator 0 0 (0 ∷ 1 ∷ 1 ∷ [])) ∷ simplify strict 2 255 100 ∷ [])
    ∷ (store (variable 0) ∷ store (constant one_bits) ∷ store (operator 2 0 (0 ∷ 1 ∷ 1 ∷ [])) ∷ simplify strict 2 255 100 ∷ [])
    ∷ (store (variable 0) ∷ store (constant half) ∷ store (constant two) ∷ store (add 0 1) ∷ store (add 3 2) ∷ simplify strict 4 255 100 ∷ [])
    ∷ (store (variable 0) ∷ store (constant half) ∷ store (constant two) ∷ store (mul 0 1) ∷ store (mul 3 2) ∷ simplify strict 4 255 100 ∷ [])
    ∷ [])
    ≡ (stored 0 ∷ stored 1 ∷ stored 2 ∷ simplified 0 false 4 ∷ [])
    ∷ (stored 0 ∷ stored 1 ∷ simplified 1 false 3 ∷ [])
    ∷ (stored 0 ∷ stored 1 ∷ simplified 1 false 3 ∷ [])
    ∷ (stored 0 ∷ stored 1 ∷ simplified 1 false 3 ∷ [])
    ∷ (stored 0 ∷ stored 1 ∷ simplified 1 false 2 ∷ [])
    ∷ (stored 0 ∷ stored 1 ∷ simplified 1 false 2 ∷ [])
    ∷ (stored 0 ∷ stored 1 ∷ simplified 1 false 2 ∷ [])
    ∷ (stored 0 ∷ stored 1 ∷ stored 2 ∷ simplified 2 false 4 ∷ [])
    ∷ (stored 0 ∷ stored 1 ∷ stored 2 ∷ simplified 2 false 4 ∷ [])
    ∷ (stored 0 ∷ stored 1 ∷ stored 2 ∷ stored 3 ∷ stored 4 ∷ simplified 4 false 6 ∷ [])
    ∷ (stored 0 ∷ stored 1 ∷ stored 2 ∷ stored 3 ∷ stored 4 ∷ simplified 4 false 6 ∷ [])
    ∷ []
unfolding answers
whole_cases = refl

-- f(x + 0.5): a strict walk leaves no mark, so that the walk after it goes through both nodes and marks them; a strict walk then goes
-- through both, marked as they are. A budget of 4 is spent; 4 and 5 are refused as in every walk.
pub marks_unheeded :
    answers lent empty (store (variable 0) ∷ store (constant half) ∷ store (add 0 1) ∷ store (function 7 (2 ∷ [])) ∷ simplify strict 3 255 100 ∷ simplify standard 3 255 100
    ∷ simplify standard 3 255 100 ∷ simplify strict 3 255 100 ∷ simplify strict 3 255 4 ∷ simplify strict 4 255 100 ∷ simplify strict 3 256 100 ∷ [])
    ≡ stored 0 ∷ stored 1 ∷ stored 2 ∷ stored 3 ∷ simplified 3 false 5 ∷ simplified 3 false 5 ∷ simplified 3 false 2 ∷ simplified 3 false 5 ∷ simplified 3 true 4 ∷ refused 4 ∷ refused 5 ∷ []
unfolding answers
marks_unheeded = refl

-- the sheet of the examples with a strict walk of its sum x + 0.0, which stays: "its sheet body is 08, laid out as 06"
abbrev strict_sheet : List ℕ
strict_sheet = take 30 sheet_bytes ++ 8 ∷ drop 31 sheet_bytes

pub sheet_answers : (sheet lent empty strict_sheet).answers ≡ walked_to 2
unfolding sheet
sheet_answers = refl

-- "ok 2", "0 0 0000000000000007 0", "1 1 0000000000000000 0", "2 2 0000000000000000 3 0 1": no node is marked
pub sheet_listing : listing (sheet lent empty strict_sheet)
    ≡ 111 ∷ 107 ∷ 32 ∷ 50 ∷ 10
    ∷ 48 ∷ 32 ∷ 48 ∷ 32 ∷ 48 ∷ 48 ∷ 48 ∷ 48 ∷ 48 ∷ 48 ∷ 48 ∷ 48 ∷ 48 ∷ 48 ∷ 48 ∷ 48 ∷ 48 ∷ 48 ∷ 48 ∷ 55 ∷ 32 ∷ 48 ∷ 10
    ∷ 49 ∷ 32 ∷ 49 ∷ 32 ∷ 48 ∷ 48 ∷ 48 ∷ 48 ∷ 48 ∷ 48 ∷ 48 ∷ 48 ∷ 48 ∷ 48 ∷ 48 ∷ 48 ∷ 48 ∷ 48 ∷ 48 ∷ 48 ∷ 32 ∷ 48 ∷ 10
    ∷ 50 ∷ 32 ∷ 50 ∷ 32 ∷ 48 ∷ 48 ∷ 48 ∷ 48 ∷ 48 ∷ 48 ∷ 48 ∷ 48 ∷ 48 ∷ 48 ∷ 48 ∷ 48 ∷ 48 ∷ 48 ∷ 48 ∷ 48 ∷ 32 ∷ 51 ∷ 32 ∷ 48 ∷ 32 ∷ 49 ∷ 10
    ∷ []
unfolding sheet listing
sheet_listing = refl

-- a record 08 a byte longer is 2
pub sheet_length : (sheet lent empty (take 28 sheet_bytes ++ 0 ∷ 9 ∷ 8 ∷ drop 31 sheet_bytes ++ 0 ∷ [])).refusal ≡ some (2, 3)
unfolding sheet
sheet_length = refl
