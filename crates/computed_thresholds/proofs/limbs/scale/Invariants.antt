-- `limbs::scale` meets its contract. Assumes nothing.
use Rattle.computed_thresholds.proofs.Scaling.{Scaling}
use Rattle.computed_thresholds.proofs.limbs.scale.Given as goal

abbrev pub invariant-loop-i : goal.invariant-loop-i
invariant-loop-i l = Scaling l.initial.limbs l.used l.factor l.limbs l.over l.i
