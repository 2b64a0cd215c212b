-- `arena::node::store_node` meets its contract.
use mathlib.Core.Path.{◌∙◌}
use lib.ListN.{length-set}
use native.Mathlib.Omega.{arith}
use borrow.Author.Rules.{rules}
use Rattle.arena.proofs.Putting.{stored}
use Rattle.arena.proofs.node.store_node.Goals as goal

pub bounds-nodes-at-2 : goal.bounds-nodes-at-2
bounds-nodes-at-2 c = simp length-set (omega arith)

pub bounds-nodes-at-3 : goal.bounds-nodes-at-3
bounds-nodes-at-3 c = simp length-set (omega arith)

pub bounds-nodes-at-4 : goal.bounds-nodes-at-4
bounds-nodes-at-4 c = simp length-set (omega arith)

pub bounds-nodes-at-5 : goal.bounds-nodes-at-5
bounds-nodes-at-5 c = simp length-set (omega arith)

pub bounds-nodes-at-6 : goal.bounds-nodes-at-6
bounds-nodes-at-6 c = simp length-set (omega arith)

pub store_children-requires : goal.store_children-requires
store_children-requires c = simp length-set (omega arith)

pub shape_of-nodes : goal.shape_of-nodes
shape_of-nodes c = c.store_children.auto.nodes ∙ simp length-set

pub returns : goal.returns
returns c = c.store_children.ensures ∙ stored _ _ _ c.requires (search rules)
