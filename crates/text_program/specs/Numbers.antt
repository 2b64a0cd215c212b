-- What the digits of a number say.
use Rattle.std.specs.Prelude.{ℕ, ◌^◌, ◌<◌, ◌≡◌, Bool, List, length, drop}
use Rattle.text_language.specs.Grammar.{is_digit, is_hex, hex_digit, digits}
use Rattle.text_language.specs.Reader.{word}
use Rattle.text_program.specs.declared.numbers.Digits.{Digits}
use Rattle.text_program.specs.declared.numbers.Radix.{Radix}
use Rattle.text_program.specs.declared.numbers.Radix.TheVariants.{Decimal, Hexadecimal}

-- how many values a digit has
abbrev pub base : Radix → ℕ
base Decimal = 10
base Hexadecimal = 16

-- the digits of a radix
abbrev pub accepts : Radix → ℕ → Bool
accepts Decimal c = is_digit c
accepts Hexadecimal c = is_hex c

-- how many values a word of 64 bits has
abbrev pub word_values : ℕ
word_values = 18446744073709551616

-- as many digits as there are, at most so many, and what they say
pub record DigitsRead (s : List ℕ) (from : ℕ) (radix : Radix) (most : ℕ) (r : Digits) : Type 0 where
  pub value : r.value ≡ digits (base radix) hex_digit 0 (word (accepts radix) most (drop from s))
  pub count : r.count ≡ length (word (accepts radix) most (drop from s))
  pub low : r.value < base radix ^ r.count
