use mathlib.Core.Path.{refl}
use Rattle.definitions.specs.Machine as M
use Rattle.building.proofs.Codes.{asked_constant}
use Rattle.building.proofs.Requesting.{stores_audited}
use Rattle.builder.proofs.leaves.constant.Goals as goal

pub build-requires : goal.build-requires
build-requires c = asked_constant _

pub returns : goal.returns
returns c = stores_audited (M.constant _) _ refl _ _ _ c.build.ensures
