use mathlib.Core.Path.{refl}
use borrow.Author.Rules.{rules}
use Rattle.curvalique.proofs.rewriting.curvalique_prune_by_setting.Goals as goal

pub prune-requires : goal.prune-requires
prune-requires c = refl

pub returns : goal.returns
returns c = record { leaves = c.prune.ensures.leaves; outputs_stay = c.prune.ensures.outputs_stay }
