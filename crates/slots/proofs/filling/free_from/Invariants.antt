-- The invariant: the slots passed are in use.
use Rattle.slots.specs.Table.{InUse}
use Rattle.slots.proofs.filling.free_from.Given as goal

abbrev pub invariant-loop-far : goal.invariant-loop-far
invariant-loop-far l = InUse l.slots l.size l.home l.far
