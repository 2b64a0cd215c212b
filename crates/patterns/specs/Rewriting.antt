-- What applying a pattern in a store that holds its lists answers and leaves.
use Rattle.std.specs.Prelude.{ℕ, ◌≡◌, List, Option, Some, None, Result, Ok, Err}
use Rattle.refusal.specs.declared.Refusal.{Refusal}
use Rattle.refusal.specs.Number.{number_of}
use Rattle.arena.specs.declared.DagArena.{DagArena}
use Rattle.definitions.specs.Walk.{Mode}
use Rattle.store.specs.Memory.{Memory}
use Rattle.store.specs.declared.NodeAnswer.TheVariants.{Id, Refused}
use Rattle.patterns.specs.declared.Rewritten.{Rewritten}
use Rattle.patterns.specs.declared.Finished.{Finished}
use Rattle.patterns.specs.Applied.{Applies}

-- an answer with its refusal's number and the counts after it, as they stand beside lent lists
abbrev pub finished_as : Result Rewritten Refusal → DagArena → Finished
finished_as (Ok r) s = record { answer = Id r.id; arena = s; fired = r.fired }
finished_as (Err refusal) s = record { answer = Refused (number_of refusal); arena = s; fired = None }

abbrev pub matched_as : Result (Option Rewritten) Refusal → DagArena → Option Finished
matched_as (Ok None) s = None
matched_as (Ok (Some r)) s = Some (finished_as (Ok r) s)
matched_as (Err refusal) s = Some (finished_as (Err refusal) s)

-- as `Applies` says; where no pattern fits nothing changes
pub record AppliesIn (mode : Mode) (kind : ℕ) (children : List ℕ) (m : Memory) (answer : Result (Option Rewritten) Refusal) (m' : Memory) : Type 0 where
  pub applies : Applies mode kind children m.words m.slots m.arena m'.words m'.slots (matched_as answer m'.arena)
  pub unchanged : answer ≡ Ok None → m' ≡ m
