-- What is said of the text of an expression; proved in proofs/Listing and proofs/Texts.
use Rattle.std.specs.Prelude.{ℕ, ◌≤◌, ◌<◌, ◌≡◌, Bool, true, false, ◌||◌, ◌&&◌, List, [], ◌∷◌, length, leb}
use Rattle.text_language.specs.Grammar.{Expr, Text, is_digit, decimal, whole_bits}
use Rattle.text_language.specs.Program.{postfix}
use Rattle.text_language.specs.Reading.{any_nan}
use Rattle.expression_text.specs.Numeral.{most_whole, most_digits, hex_digits, number_sign, decimals, hexes, numeral}
use Rattle.expression_text.specs.Written.{text_of, depth_of, bracket_pairs, blanks}
use Rattle.expression_text.specs.Proper.{Proper}

-- every byte of w passes p
abbrev pub AllOf : (ℕ → Bool) → List ℕ → Type 0
AllOf p [] = Unit {0}
AllOf p (c ∷ w) = (p c ≡ true) × AllOf p w

-- 0 to 9 or A to F
abbrev pub is_capital_hex : ℕ → Bool
is_capital_hex c = is_digit c || leb 65 c && leb c 70

-- "Whole constants 0 to 999,999,999 (not -0.0) are printed in fewest digits, others as # and hex in capitals."
pub record Numerals : Type 0 where
  pub whole : (n : ℕ) → n ≤ most_whole → numeral (whole_bits n) ≡ decimals most_digits n []
  pub other : (b : ℕ) → ((n : ℕ) → n ≤ most_whole → b ≡ whole_bits n → ⊥) → numeral b ≡ number_sign ∷ hexes hex_digits b []
  pub fewest : (n : ℕ) → n ≤ most_whole → (w : List ℕ) → AllOf is_digit w → 0 < length w → decimal w ≡ n → length (decimals most_digits n []) ≤ length w
  pub capitals : (b : ℕ) → AllOf is_capital_hex (hexes hex_digits b [])

-- an expression has a text exactly if it is proper
pub record HasText (e : Expr) : Type 0 where
  pub text : List ℕ
  pub depth : ℕ
  pub reads : Text text e depth
  pub numbers : any_nan (postfix e) ≡ false

abbrev pub OnlyProper : Type 0
OnlyProper = (e : Expr) → HasText e → Proper e

-- and then its text is one: no blanks, and of all texts that read to it none has fewer bracket pairs or nests less deep
pub record TextFacts (e : Expr) : Type 0 where
  pub reads : Text (text_of e) e (depth_of e)
  pub numbers : any_nan (postfix e) ≡ false
  pub some : 0 < length (text_of e)
  pub no_blanks : blanks (text_of e) ≡ 0
  pub fewest : (s : List ℕ) (d : ℕ) → Text s e d → bracket_pairs (text_of e) ≤ bracket_pairs s
  pub shallowest : (s : List ℕ) (d : ℕ) → Text s e d → depth_of e ≤ d

abbrev pub ProperTexts : Type 0
ProperTexts = (e : Expr) → Proper e → TextFacts e
