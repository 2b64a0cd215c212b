use Rattle.building.proofs.Codes.{asked_variable}
use borrow.Author.Rules.{rules}
use Rattle.text.proofs.making.variable.Goals as goal

pub build_sound-requires : goal.build_sound-requires
build_sound-requires c = (asked_variable _ (search rules), c.requires)
