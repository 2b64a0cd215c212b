-- What the check of a text says.
use Rattle.std.specs.Prelude.{ℕ, ◌≤◌, ◌≡◌, List, length, Result, Ok, Err}
use Rattle.text_language.specs.Grammar.{Expr, Text}
use Rattle.text_language.specs.Program as Program
use Rattle.text_language.specs.Program.{postfix}
use Rattle.text_language.specs.Reading.{most_nested, Sized, Refuses}
use Rattle.refusal.specs.declared.Refusal.{Refusal}
use Rattle.refusal.specs.Number.{number_of}

-- a program of the one expression that the text reads to
pub record Compiled (s program : List ℕ) (size : ℕ) : Type 0 where
  pub sized : Sized s
  pub expr : Expr
  pub depth : ℕ
  pub text : Text s expr depth
  pub shallow : depth ≤ most_nested
  pub tokens : Program.tokens s program size ≡ postfix expr
  pub inside : size ≤ length program

abbrev pub Compiles : List ℕ → List ℕ → Result ℕ Refusal → Type 0
Compiles s program (Ok size) = Compiled s program size
Compiles s program (Err e) = Refuses s (number_of e)
