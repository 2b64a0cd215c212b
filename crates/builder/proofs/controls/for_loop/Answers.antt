use mathlib.Core.Path.{refl}
use Rattle.definitions.specs.Machine as M
use native.Mathlib.Omega.{arith}
use Rattle.building.proofs.Codes.{asked_control}
use Rattle.building.proofs.Requesting.{stores_audited}
use Rattle.builder.proofs.controls.for_loop.Goals as goal

pub build-requires : goal.build-requires
build-requires c = asked_control _ (omega arith)

pub returns : goal.returns
returns c = stores_audited (M.for_loop _ _ _ _) _ refl _ _ _ c.build.ensures
