use mathlib.Core.Path.{refl}
use borrow.Author.Rules.{rules}
use Rattle.curvalique.proofs.operators.curvalique_operator.Goals as goal

pub make-requires : goal.make-requires
make-requires c = refl

pub returns : goal.returns
returns c = record { leaves = c.make.ensures.leaves; outputs_stay = c.make.ensures.outputs_stay }
