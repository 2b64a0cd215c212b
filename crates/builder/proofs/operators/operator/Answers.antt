use Rattle.definitions.specs.Machine as M
use Rattle.building.proofs.Codes.{asked_operator_code, operator_request}
use Rattle.building.proofs.Requesting.{stores_audited}
use Rattle.builder.proofs.operators.operator.Goals as goal

pub build-requires : goal.build-requires
build-requires c = asked_operator_code _ _ _ c.is_operator-listed.ensures

pub returns : goal.returns
returns c = rw (← c.from-code.ensures, ← c.from-flags.ensures) (stores_audited (M.operator _ _ _) _ (operator_request _ _ _ c.is_operator-listed.ensures _) _ _ _ c.build.ensures)
