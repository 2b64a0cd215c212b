-- What each case of a threshold is in the plain machine's terms.
use Rattle.std.specs.Prelude.{ℕ, Option, None, Some, Result, Ok, Err}
use Rattle.refusal.specs.declared.Refusal.{Refusal}
use Rattle.refusal.specs.Number.{number_of}
use Rattle.definitions.specs.Threshold as T

-- a threshold by its bit pattern; none where nothing is pruned; or the number of a refusal
abbrev pub meaning : Result (Option ℕ) Refusal → T.Threshold
meaning (Ok (Some pattern)) = T.bits pattern
meaning (Ok None) = T.untouched
meaning (Err refusal) = T.refusing (number_of refusal)
