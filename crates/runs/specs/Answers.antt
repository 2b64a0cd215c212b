-- What a walk's answer is in the plain machine's terms.
use Rattle.definitions.specs.Machine as M
use Rattle.std.specs.Prelude.{Result, Ok, Err}
use Rattle.refusal.specs.declared.Refusal.{Refusal}
use Rattle.refusal.specs.Number.{number_of}
use Rattle.runs.specs.declared.Simplified.{Simplified}

-- an id, whether the budget was used up with frames left, and the steps; or a refusal by its number
abbrev pub meaning : Result Simplified Refusal → M.Answer
meaning (Ok walked) = M.simplified walked.id walked.spent walked.steps
meaning (Err refusal) = M.refused (number_of refusal)
