use Rattle.store.specs.Held.{held, SameLists}
use Rattle.sums.proofs.Joining.{Joining}
use Rattle.sums.proofs.sum.join.Given as goal

abbrev pub invariant-loop-place : goal.invariant-loop-place
invariant-loop-place l =
    SameLists l.initial.store l.store
    × Joining (held l.initial.store).words (held l.initial.store).slots (held l.initial.store).arena l.rights l.initial.lefts l.depth l.id (held l.store).words (held l.store).slots (held l.store).arena l.lefts l.sum l.place
