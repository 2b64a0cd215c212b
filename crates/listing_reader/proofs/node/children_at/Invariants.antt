-- `listing_reader::node::children_at` meets its contract. The loop's invariant: the children passed are read, and are the first of any that stand there.
use Rattle.listing_reader.proofs.ChildLines.{ChildrenRead}
use Rattle.listing_reader.proofs.node.children_at.Given as goal

abbrev pub invariant-loop-count : goal.invariant-loop-count
invariant-loop-count l = ChildrenRead l.bytes l.at l.places l.count l.next
