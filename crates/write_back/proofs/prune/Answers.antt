use Rattle.write_back.specs.Answers.{off}
use Rattle.write_back.proofs.Chaining.{pruned_by}
use Rattle.write_back.proofs.prune.Goals as goal

pub returns-in-None : goal.returns-in-None
returns-in-None c = off c.in-None.is

pub returns-in-Some : goal.returns-in-Some
returns-in-Some c = pruned_by _ _ _ c.in-Some.is c.id_of.ensures c.prune_by_setting.ensures
