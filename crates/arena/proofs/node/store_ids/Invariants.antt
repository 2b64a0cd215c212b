-- The invariant: the children passed are written over places that are 0.
use Rattle.std.proofs.Common.{◌≡◌, ◌+◌, ◌≤◌, length}
use Rattle.std.proofs.Math.Seq.{paste}
use Rattle.arena.specs.Layout.{most_children}
use Rattle.arena.proofs.node.store_ids.Given as goal

abbrev pub invariant-loop-j : goal.invariant-loop-j
invariant-loop-j l = record {
  written : l.nodes ≡ paste l.initial.nodes l.at l.children l.j;
  long : length l.nodes ≡ length l.initial.nodes;
  fits : l.at + most_children ≤ length l.initial.nodes;
}
