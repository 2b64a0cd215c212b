-- A write in numbers, as a store call is.
use Rattle.std.specs.Prelude.{ℕ, zero, suc}
use Rattle.writer.specs.Answers.{WriteAnswer, Length, Refused}

-- the length that stands behind the pointer where 0 is returned
abbrev pub length_unless_refused : ℕ → ℕ → WriteAnswer
length_unless_refused zero length = Length length
length_unless_refused (suc number) length = Refused (suc number)
