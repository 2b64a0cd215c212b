use mathlib.Core.Path.{subst}
use Rattle.store_calls.specs.declared.answers.Answer.{Answer}
use Rattle.store_calls.specs.Calls.{answer_of}
use Rattle.outputs.specs.Calls.{AnswersWalk}
use Rattle.outputs.proofs.leaving.leave_simplified.Goals as goal

pub returns-in-Stored : goal.returns-in-Stored
returns-in-Stored c = absurd (subst (λ (x : Answer). AnswersWalk (answer_of x)) c.in-Stored.is c.requires)

pub returns-in-Pruned : goal.returns-in-Pruned
returns-in-Pruned c = absurd (subst (λ (x : Answer). AnswersWalk (answer_of x)) c.in-Pruned.is c.requires)
