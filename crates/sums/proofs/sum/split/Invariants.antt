-- `sums::sum::split` meets its contract. The measure is the number of terms that are not split. Assumes nothing.
use Rattle.sums.proofs.Splitting.{Splitting}
use Rattle.sums.proofs.sum.split.Given as goal

abbrev pub invariant-loop-rest : goal.invariant-loop-rest
invariant-loop-rest l = Splitting l.initial.rights l.depth l.n l.rights l.rest l.to

abbrev pub decreases-loop-rest : goal.decreases-loop-rest
decreases-loop-rest l = l.rest
