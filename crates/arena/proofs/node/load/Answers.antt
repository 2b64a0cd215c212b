-- `arena::node::load` meets its contract.
use mathlib.Core.Path.{refl}
use borrow.Author.Rules.{rules}
use Rattle.arena.specs.Node.{node_at}
use Rattle.arena.proofs.node.load.Goals as goal

pub returns : goal.returns
unfolding node_at
returns c = rw c.load_children-children.ensures refl
