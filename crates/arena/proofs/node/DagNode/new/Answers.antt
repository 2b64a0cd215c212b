-- `arena::node::DagNode::new` meets its contract.
use mathlib.Core.Path.{◌≡◌, refl, sym}
use lib.ListN.{length}
use lib.Seq.{length-take-le}
use native.Mathlib.Omega.{arith}
use borrow.Author.Rules.{rules}
use Rattle.arena.specs.Layout.{most_children}
use Rattle.std.proofs.lemmas.List.{map-id}
use Rattle.arena.specs.Node.{new_node}
use Rattle.arena.proofs.node.DagNode.new.Goals as goal

pub slice_bounds-node_hash-end : goal.slice_bounds-node_hash-end
slice_bounds-node_hash-end c = sym (length-take-le _ _ (let l : length c.args.children ≡ most_children = search rules in omega arith))

pub returns : goal.returns
unfolding new_node
returns c = rw (c.coefficient_of-coefficient.ensures, c.node_hash-hash.ensures, map-id) refl
