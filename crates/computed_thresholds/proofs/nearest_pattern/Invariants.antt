-- `nearest_pattern` meets its contract. The invariant: the threshold is above `below`, and at most `reached`. Assumes nothing.
use Prim.Native.Nat.{◌-◌, ◌≤◌, ◌<◌}
use Rattle.thresholds.specs.Thresholds.{threshold}
use Rattle.computed_thresholds.specs.Limbs.{lowest, highest}
use Rattle.computed_thresholds.proofs.nearest_pattern.Given as goal

abbrev pub invariant-loop-reached : goal.invariant-loop-reached
invariant-loop-reached l = (l.below < threshold l.n) × (threshold l.n ≤ l.reached) × (lowest ≤ l.below) × (l.reached ≤ highest)

abbrev pub decreases-loop-reached : goal.decreases-loop-reached
decreases-loop-reached l = l.reached - l.below
