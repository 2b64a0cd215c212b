use mathlib.Core.Path.{refl}
use Rattle.definitions.specs.Machine as M
use Rattle.building.proofs.Codes.{asked_control_code}
use Rattle.building.proofs.Requesting.{stores_audited}
use Rattle.builder.proofs.controls.control.Goals as goal

pub build-requires : goal.build-requires
build-requires c = asked_control_code _

pub returns : goal.returns
returns c = rw (← c.from-payload.ensures) (stores_audited (M.control _ _) _ refl _ _ _ c.build.ensures)
