-- What a write answers, in numbers: the length of the text, or the number of a refusal.
use Rattle.std.specs.Prelude.{ℕ, Result, Ok, Err}
use Rattle.refusal.specs.declared.Refusal.{Refusal}
use Rattle.refusal.specs.Number.{number_of}

pub data WriteAnswer : Type 0 where
  Length : ℕ → WriteAnswer
  Refused : ℕ → WriteAnswer

abbrev pub answer_of : Result ℕ Refusal → WriteAnswer
answer_of (Ok length) = Length length
answer_of (Err reason) = Refused (number_of reason)
