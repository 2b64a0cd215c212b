use mathlib.Core.Path.{sym, ap}
use Rattle.store_calls.specs.declared.answers.Answer.{Answer}
use Rattle.store_calls.specs.Calls.{answer_of}
use Rattle.sheet.specs.Running.{noted_as}
use Rattle.sheet.proofs.running.note.Goals as goal

pub returns-in-Stored : goal.returns-in-Stored
returns-in-Stored c = sym (ap (λ (x : Answer). noted_as (answer_of x)) c.in-Stored.is)

pub returns-in-Simplified : goal.returns-in-Simplified
returns-in-Simplified c = sym (ap (λ (x : Answer). noted_as (answer_of x)) c.in-Simplified.is)

pub returns-in-Pruned : goal.returns-in-Pruned
returns-in-Pruned c = sym (ap (λ (x : Answer). noted_as (answer_of x)) c.in-Pruned.is)

pub returns-in-Refused : goal.returns-in-Refused
returns-in-Refused c = sym (ap (λ (x : Answer). noted_as (answer_of x)) c.in-Refused.is)
