use Rattle.definitions.specs.Node as N
use Rattle.store.specs.View.{nodes_in}
use Rattle.listing_lines.proofs.Lines.{Listed}
use Rattle.listing_lines.proofs.node.with_children.Given as goal

abbrev pub invariant-loop-place : goal.invariant-loop-place
invariant-loop-place l = Listed l.initial.longer (N.at (nodes_in l.nodes l.count) l.id).children l.longer l.place
