use mathlib.Core.Path.{refl}
use Rattle.definitions.specs.Machine as M
use native.Mathlib.Omega.{arith}
use Rattle.building.proofs.Codes.{asked_operator}
use Rattle.building.proofs.Requesting.{stores_audited}
use Rattle.builder.proofs.operators.modulo.Goals as goal

pub build-requires : goal.build-requires
build-requires c = asked_operator _ _ (omega arith) (omega arith) (omega arith)

pub returns : goal.returns
returns c = stores_audited (M.modulo _ _) _ refl _ _ _ c.build.ensures
