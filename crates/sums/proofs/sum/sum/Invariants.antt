-- The measure is the number of terms that are not summed.
use Prim.Native.Nat.{◌+◌, ◌-◌}
use Rattle.store.specs.Held.{held, SameLists}
use Rattle.sums.proofs.Summing.{Summing}
use Rattle.sums.proofs.sum.sum.Given as goal

abbrev pub invariant-loop-id : goal.invariant-loop-id
invariant-loop-id l =
    SameLists l.initial.store l.store
    × Summing (held l.initial.store).words (held l.initial.store).slots (held l.initial.store).arena l.terms l.from l.n (held l.store).words (held l.store).slots (held l.store).arena l.rights l.lefts l.depth l.at l.rest

abbrev pub decreases-loop-id : goal.decreases-loop-id
decreases-loop-id l = l.from + l.n - l.at
