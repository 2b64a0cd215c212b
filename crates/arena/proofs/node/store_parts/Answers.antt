-- `arena::node::store_parts` meets its contract: the words stored are those of the node.
use mathlib.Core.Path.{◌∙◌}
use lib.ListN.{length-set}
use native.Mathlib.Omega.{arith}
use Rattle.arena.proofs.Storing.{stored_parts}
use borrow.Author.Rules.{rules}
use Rattle.arena.proofs.node.store_parts.Goals as goal

pub bounds-nodes-at-2 : goal.bounds-nodes-at-2
bounds-nodes-at-2 c = simp length-set (omega arith)

pub bounds-nodes-at-3 : goal.bounds-nodes-at-3
bounds-nodes-at-3 c = simp length-set (omega arith)

pub bounds-nodes-at-4 : goal.bounds-nodes-at-4
bounds-nodes-at-4 c = simp length-set (omega arith)

pub bounds-nodes-at-5 : goal.bounds-nodes-at-5
bounds-nodes-at-5 c = simp length-set (omega arith)

pub bounds-nodes-at-6 : goal.bounds-nodes-at-6
bounds-nodes-at-6 c = simp length-set (omega arith)

pub store_ids-requires : goal.store_ids-requires
store_ids-requires c = (simp length-set (omega arith), c.args.key.parts.few)

pub shape_of-nodes : goal.shape_of-nodes
shape_of-nodes c = c.store_ids.auto.nodes ∙ simp length-set

pub returns : goal.returns
returns c = c.store_ids.ensures ∙ stored_parts _ _ _ _ _ _ _ _ c.requires c.args.key.parts.few c.args.key.hashed c.coefficient_of.ensures
