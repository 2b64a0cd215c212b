use mathlib.Core.Path.{refl}
use Rattle.definitions.specs.Machine as M
use Rattle.curvalique.proofs.Answering.{made_as}
use borrow.Author.Rules.{rules}
use Rattle.curvalique.proofs.operators.curvalique_pow.Goals as goal

pub make-requires : goal.make-requires
make-requires c = refl

pub returns : goal.returns
returns c =
    let p = made_as _ (M.pow _ _) (M.operator _ _ _) _ _ refl (c.make.ensures.leaves, c.make.ensures.outputs_stay) in
    record { leaves = p.0; outputs_stay = p.1 }
