-- `listing_reader::node_lines` meets its contract. The loop's invariant: the bytes begin with the lines of the nodes written, and words past them are as they were.
use Prim.Native.Nat.{◌-◌}
use Rattle.arena.specs.Layout.{most_nodes}
use Rattle.listing_reader.proofs.Listings.{LinesRead}
use Rattle.listing_reader.proofs.node_lines.Given as goal

abbrev pub invariant-loop-at : goal.invariant-loop-at
invariant-loop-at l = LinesRead l.bytes l.outcome l.initial.nodes l.nodes l.at l.count

abbrev pub decreases-loop-at : goal.decreases-loop-at
decreases-loop-at l = most_nodes - l.count
