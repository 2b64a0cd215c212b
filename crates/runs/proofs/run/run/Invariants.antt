-- The invariant: the plain walk from here, with the budget that is left, is the whole walk of the root. The measure is that budget.
use Prim.Native.Nat.{◌-◌}
use Rattle.definitions.specs.Modes.{mode_of}
use Rattle.turns.specs.Stack.{stack}
use Rattle.runs.proofs.Running.{InRun}
use Rattle.runs.proofs.run.run.Given as goal

abbrev pub invariant-loop-steps : goal.invariant-loop-steps
invariant-loop-steps l = InRun (mode_of l.mode) l.initial.store l.root l.limit l.budget l.store (stack l.walk.arrays l.heights) l.steps

abbrev pub decreases-loop-steps : goal.decreases-loop-steps
decreases-loop-steps l =
    l.budget - l.steps
