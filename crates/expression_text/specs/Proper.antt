-- The expressions that texts have: names of the text's form, and constants that are numbers.
use Rattle.std.specs.Prelude.{ℕ, ◌^◌, ◌≡◌, Bool, true, false, ◌&&◌, not, List, [], ◌∷◌, length, leb, ltb}
use Rattle.std.specs.Float.{binary64}
use Rattle.std.specs.Float.Ieee.{nan_bits}
use Rattle.text_language.specs.Grammar.{Expr, constant, variable, negated, linked, raised, is_letter, is_word}

unfoldable pub all_words : List ℕ → Bool
all_words [] = true
all_words (c ∷ w) = is_word c && all_words w

-- a name is a letter and then letters or digits, 32 at most
unfoldable pub is_name : List ℕ → Bool
unfolding all_words
is_name [] = false
is_name (c ∷ w) = is_letter c && (all_words w && leb (length w) 31)

-- bits of a binary64 number, of which a NaN is none
unfoldable pub number_bits : ℕ → Bool
unfolding nan_bits
number_bits b = ltb b (2 ^ 64) && not (nan_bits binary64 b)

abbrev pub Proper : Expr → Type 0
Proper (constant b) = number_bits b ≡ true
Proper (variable w) = is_name w ≡ true
Proper (negated a) = Proper a
Proper (linked k x a b) = Proper a × Proper b
Proper (raised a b) = Proper a × Proper b
