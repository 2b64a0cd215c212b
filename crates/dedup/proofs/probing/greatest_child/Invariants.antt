-- The invariant: it is the greatest of the children passed.
use Rattle.std.proofs.Common.{◌≡◌, ◌<◌, ◌^◌, take}
use Rattle.dedup.specs.Probe.{greatest_child}
use Rattle.dedup.proofs.probing.greatest_child.Given as goal

abbrev pub invariant-loop-child : goal.invariant-loop-child
invariant-loop-child l = record {
  greatest : l.greatest ≡ greatest_child (take l.child-index l.children);
  small : l.greatest < 2 ^ 32;
}
