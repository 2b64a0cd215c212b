-- What a typed text meets: a refusal, or none, and then it denotes one expression.
use Rattle.std.specs.Prelude.{ℕ, ◌+◌, ◌*◌, ◌≤◌, ◌<◌, ◌≡◌, refl, Bool, true, false, cond, List, [], ◌∷◌, length, leb, eqb}
use Rattle.std.specs.Float.{binary64}
use Rattle.std.specs.Float.Ieee.{nan_bits}
use Rattle.text_language.specs.Refusals.{bad_text, not_a_number, outside_language, nested_too_deep}
use Rattle.text_language.specs.Grammar.{Expr, constant, Text, chain, sums}
use Rattle.text_language.specs.Reader.{Got, got, bad, level, read}
use Rattle.text_language.specs.Scan.{ended}
use Rattle.text_language.specs.Program.{Token, number, name, negate, join, postfix}

-- "A text of 0 or over 8,192 bytes meets 1."
abbrev pub most_bytes : ℕ
most_bytes = 8192

-- "nested over 64 deep"
abbrev pub most_nested : ℕ
most_nested = 64

pub record Sized (s : List ℕ) : Type 0 where
  pub some : 0 < length s
  pub short : length s ≤ most_bytes

abbrev pub nan_token : Token → Bool
nan_token (number b) = nan_bits binary64 b
nan_token (name w) = false
nan_token negate = false
nan_token (join o) = false

-- whether a program has a constant whose bits are a NaN
unfoldable pub any_nan : List Token → Bool
unfolding nan_bits
any_nan [] = false
any_nan (t ∷ ts) = elim (nan_token t) [ true ↦ true | false ↦ any_nan ts ]

-- 1, 11, 12 and 10, in this order
pub data Refuses (s : List ℕ) : ℕ → Type 0 where
  empty : length s ≡ 0 → Refuses s bad_text
  long : most_bytes < length s → Refuses s bad_text
  outside : Sized s → ((e : Expr) (d : ℕ) → Text s e d → ⊥) → Refuses s outside_language
  deep : {e : Expr} {d : ℕ} → Sized s → Text s e d → most_nested < d → Refuses s nested_too_deep
  nan : {e : Expr} {d : ℕ} → Sized s → Text s e d → d ≤ most_nested → any_nan (postfix e) ≡ true → Refuses s not_a_number

-- a text that meets none of these denotes e
pub record Denotes (s : List ℕ) (e : Expr) : Type 0 where
  pub sized : Sized s
  pub depth : ℕ
  pub text : Text s e depth
  pub shallow : depth ≤ most_nested
  pub numbers : any_nan (postfix e) ≡ false

-- ---- the same, computed

pub data Verdict : Type 0 where
  refuses : ℕ → Verdict
  denotes : Expr → Verdict

unfoldable pub judge : Got → Verdict
unfolding ended any_nan postfix
judge bad = refuses outside_language
judge (got e d r) =
    cond (ended r)
    (cond (leb d most_nested) (cond (any_nan (postfix e)) (refuses not_a_number) (denotes e)) (refuses nested_too_deep))
    (refuses outside_language)

-- a NaN nested 65 deep: 12 comes before 10
pub depth_first : judge (got (constant 0x7FF8000000000000) 65 []) ≡ refuses nested_too_deep
unfolding judge
depth_first = refl

unfoldable pub verdict : List ℕ → Verdict
unfolding read judge
verdict s =
    cond (eqb (length s) 0) (refuses bad_text)
    (cond (leb (length s) most_bytes) (judge (read (4 * length s + 4) (level (chain sums)) s)) (refuses bad_text))

abbrev pub Judged : List ℕ → Verdict → Type 0
Judged s (refuses k) = Refuses s k
Judged s (denotes e) = Denotes s e
