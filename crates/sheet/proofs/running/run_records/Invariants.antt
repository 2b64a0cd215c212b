-- `sheet::running::run_records` meets its contract. The loop's invariant: so many records were done, and what is left gives the plain sheet.
use Prim.Native.Nat.{◌-◌}
use mathlib.Core.List.{[]}
use lib.ListN.{drop}
use Rattle.definitions.specs.Limits.{most_records}
use Rattle.definitions.specs.Sheet as Sheet
use Rattle.store.specs.Memory.{memory, model}
use Rattle.sheet.specs.Running.{Doing}
use Rattle.sheet.proofs.running.run_records.Given as goal

abbrev pub invariant-loop-progress : goal.invariant-loop-progress
invariant-loop-progress l =
    let m = memory l.initial.nodes l.initial.slots l.initial.progress.arena in
    Doing l.sheet (Sheet.records most_records (model.lent m) [] (model.view m) (drop l.start l.sheet)) m l.progress (memory l.nodes l.slots l.progress.arena) l.ids

abbrev pub decreases-loop-progress : goal.decreases-loop-progress
decreases-loop-progress l = most_records - l.progress.done
