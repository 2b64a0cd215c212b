use mathlib.Core.Path.{refl}
use Rattle.definitions.specs.Machine as M
use Rattle.building.proofs.Codes.{asked_function}
use Rattle.building.proofs.Requesting.{stores_audited}
use borrow.Author.Rules.{rules}
use Rattle.builder.proofs.functions.function.Goals as goal

pub build-requires : goal.build-requires
build-requires c = asked_function _ (search rules)

pub returns : goal.returns
returns c = rw (← c.from.ensures) (stores_audited (M.function _ _) _ refl _ _ _ c.build.ensures)
