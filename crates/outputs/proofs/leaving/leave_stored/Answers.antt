use mathlib.Core.Path.{refl, ap, subst}
use Rattle.store_calls.specs.declared.answers.Answer.{Answer}
use Rattle.store_calls.specs.Calls.{answer_of}
use Rattle.outputs.specs.Calls.{AnswersNode}
use Rattle.outputs.proofs.Equal.{left_answered, left_refused}
use Rattle.outputs.proofs.leaving.leave_stored.Goals as goal

pub returns-in-Stored : goal.returns-in-Stored
returns-in-Stored c = record { size_after = c.leave_arena.ensures; left_behind = left_answered _ _ _ _ (ap answer_of c.in-Stored.is) refl refl }

pub returns-in-Simplified : goal.returns-in-Simplified
returns-in-Simplified c = absurd (subst (λ (x : Answer). AnswersNode (answer_of x)) c.in-Simplified.is c.requires)

pub returns-in-Pruned : goal.returns-in-Pruned
returns-in-Pruned c = absurd (subst (λ (x : Answer). AnswersNode (answer_of x)) c.in-Pruned.is c.requires)

pub returns-in-Refused : goal.returns-in-Refused
returns-in-Refused c = record { size_after = c.leave_arena.ensures; left_behind = left_refused _ _ _ _ (ap answer_of c.in-Refused.is) }
