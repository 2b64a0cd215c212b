use mathlib.Core.Path.{refl}
use Rattle.definitions.specs.Machine as M
use Rattle.building.proofs.Codes.{asked_variable}
use Rattle.building.proofs.Requesting.{stores_audited}
use borrow.Author.Rules.{rules}
use Rattle.builder.proofs.leaves.variable.Goals as goal

pub build-requires : goal.build-requires
build-requires c = asked_variable _ (search rules)

pub returns : goal.returns
returns c = rw (← c.from.ensures) (stores_audited (M.variable _) _ refl _ _ _ c.build.ensures)
