-- `fill` ends, since each turn leaves less of the array.
use Rattle.std.proofs.Common.{length, ◌-◌, ◌≡◌, ◌^◌, ◌<◌, ◌≤◌}
use Rattle.whole_input.proofs.fill.Given as goal

abbrev pub invariant-loop-done : goal.invariant-loop-done
invariant-loop-done g l = (length l.array ≡ length l.initial.array) × (l.done ≤ length l.array) × (length l.array < 2 ^ 64)

abbrev pub decreases-loop-done : goal.decreases-loop-done
decreases-loop-done g l = length l.initial.array - l.done
