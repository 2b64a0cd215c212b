-- A fresh store in numbers.
use Rattle.std.specs.Prelude.{ℕ, zero, suc, Ok, Err}
use Rattle.builder.specs.Opens.{FreshStore}
use Rattle.outputs.specs.Calls.{arena_of}

abbrev pub fresh_unless_refused : ℕ → ℕ → ℕ → FreshStore
fresh_unless_refused zero count size = Ok (arena_of count size)
fresh_unless_refused (suc number) count size = Err (suc number)
