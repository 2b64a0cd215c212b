use Rattle.std.proofs.Common.{◌≡◌, take, map}
use Rattle.hash.specs.Fnv.{fnv_from, children_bytes}
use Rattle.hash.proofs.add_children.Given as goal

abbrev pub invariant-loop-child : goal.invariant-loop-child
invariant-loop-child g l = l.sum ≡ fnv_from l.h (children_bytes (take l.child-index (map g.T.Child.value l.children)))
