-- Where a text stops to be one of the language.
use Rattle.std.specs.Prelude.{ℕ, suc, ◌≤◌, ◌<◌, ◌≡◌, List, ◌++◌, length, take, Option, Some, None}
use Rattle.text_language.specs.Grammar.{Expr, Text}
use Rattle.text_place.specs.declared.ScanProgress.{ScanProgress}
use Rattle.text_place.specs.declared.ScanProgress.TheVariants.{Wanted}
use Rattle.text_place.specs.Progress.{reach}

-- the bytes of a beginning, from an operand wanted and no bracket open
abbrev pub begun : List ℕ → Option ScanProgress
begun s = reach (Some (Wanted 0)) s

-- a place is that of the first byte with which no text goes on; without such a byte it is the length
pub record StopsAt (s : List ℕ) (r : ℕ) : Type 0 where
  pub within : r ≤ length s
  pub before : begun (take r s) ≡ None → ⊥
  pub there : r < length s → begun (take (suc r) s) ≡ None

-- no text of the language begins with bytes that stop
abbrev pub NoTextBegins : Type 0
NoTextBegins = (u v : List ℕ) (e : Expr) (d : ℕ) → begun u ≡ None → Text (u ++ v) e d → ⊥
