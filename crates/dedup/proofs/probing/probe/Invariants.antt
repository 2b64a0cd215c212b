-- The invariant: the slots passed are in use by other nodes.
use Rattle.arena.specs.Key.{node_of_key}
use Rattle.dedup.specs.Probe.{Passed}
use Rattle.dedup.proofs.probing.probe.Given as goal

abbrev pub invariant-loop-far : goal.invariant-loop-far
invariant-loop-far l = Passed l.nodes l.known l.slots l.size (node_of_key l.key) l.far
