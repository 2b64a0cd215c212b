use mathlib.Core.Path.{refl}
use borrow.Author.Rules.{rules}
use Rattle.curvalique.proofs.rewriting.curvalique_simplify.Goals as goal

pub simplify-requires : goal.simplify-requires
simplify-requires c = refl

pub returns : goal.returns
returns c = record { leaves = c.simplify.ensures.leaves; outputs_stay = c.simplify.ensures.outputs_stay; spent_or_not = c.simplify.ensures.spent_or_not }
