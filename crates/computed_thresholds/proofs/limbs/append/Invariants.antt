-- `limbs::append` meets its contract. Assumes nothing.
use Rattle.computed_thresholds.proofs.Appending.{Appending}
use Rattle.computed_thresholds.proofs.limbs.append.Given as goal

abbrev pub invariant-loop-over : goal.invariant-loop-over
invariant-loop-over l = Appending l.initial.limbs l.used l.left l.limbs l.over l.count

abbrev pub decreases-loop-over : goal.decreases-loop-over
decreases-loop-over l = l.over
