-- `arena::node::mark` meets its contract.
use mathlib.Core.Path.{refl}
use borrow.Author.Rules.{rules}
use Rattle.arena.specs.Node.{marked}
use Rattle.arena.proofs.node.mark.Goals as goal

pub returns : goal.returns
unfolding marked
returns c = refl
