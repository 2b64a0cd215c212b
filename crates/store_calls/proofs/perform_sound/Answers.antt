use mathlib.Core.Path.{refl}
use Rattle.definitions.specs.Machine as M
use Rattle.building.proofs.Codes.{asked_variable, asked_constant, asked_operator_code, asked_function, asked_control_code, operator_request}
use Rattle.building.proofs.Requesting.{stores_sound}
use Rattle.store_calls.proofs.Handing.{performed}
use borrow.Author.Rules.{rules}
use Rattle.store_calls.proofs.perform_sound.Goals as goal

pub build_sound-requires : goal.build_sound-requires
build_sound-requires c = (asked_variable _ (search rules), c.requires)

pub build_sound-requires-in-Constant : goal.build_sound-requires-in-Constant
build_sound-requires-in-Constant c = (asked_constant _, c.requires)

pub build_sound-requires-in-Operator : goal.build_sound-requires-in-Operator
build_sound-requires-in-Operator c = (asked_operator_code _ _ _ c.is_operator-listed.ensures, c.requires)

pub build_sound-requires-in-Function : goal.build_sound-requires-in-Function
build_sound-requires-in-Function c = (asked_function _ (search rules), c.requires)

pub build_sound-requires-in-Control : goal.build_sound-requires-in-Control
build_sound-requires-in-Control c = (asked_control_code _, c.requires)

pub simplify_sound-requires : goal.simplify_sound-requires
simplify_sound-requires c = c.requires

pub prune_sound-requires : goal.prune_sound-requires
prune_sound-requires c = c.requires

pub prune_by_setting_sound-requires : goal.prune_by_setting_sound-requires
prune_by_setting_sound-requires c = c.requires

pub returns-in-Variable : goal.returns-in-Variable
returns-in-Variable c = performed _ _ _ _ _ _ _ c.of_built.result c.in-Variable.is (rw c.from.ensures at (stores_sound (M.variable c.from.result) _ refl _ _ _ c.requires c.build_sound.ensures)) c.of_built.ensures

pub returns-in-Constant : goal.returns-in-Constant
returns-in-Constant c = performed _ _ _ _ _ _ _ c.of_built-in-Constant.result c.in-Constant.is (stores_sound (M.constant _) _ refl _ _ _ c.requires c.build_sound-in-Constant.ensures) c.of_built-in-Constant.ensures

pub returns-in-Operator : goal.returns-in-Operator
returns-in-Operator c = performed _ _ _ _ _ _ _ c.of_built-in-Operator.result c.in-Operator.is (rw (c.from-code.ensures, c.from-flags.ensures) at (stores_sound (M.operator c.from-code.result c.from-flags.result _) _ (operator_request _ _ _ c.is_operator-listed.ensures _) _ _ _ c.requires c.build_sound-in-Operator.ensures)) c.of_built-in-Operator.ensures

pub returns-in-Function : goal.returns-in-Function
returns-in-Function c = performed _ _ _ _ _ _ _ c.of_built-in-Function.result c.in-Function.is (rw c.from-in-Function.ensures at (stores_sound (M.function c.from-in-Function.result _) _ refl _ _ _ c.requires c.build_sound-in-Function.ensures)) c.of_built-in-Function.ensures

pub returns-in-Control : goal.returns-in-Control
returns-in-Control c = performed _ _ _ _ _ _ _ c.of_built-in-Control.result c.in-Control.is (rw c.from-payload.ensures at (stores_sound (M.control c.from-payload.result _) _ refl _ _ _ c.requires c.build_sound-in-Control.ensures)) c.of_built-in-Control.ensures

pub returns-in-Simplify : goal.returns-in-Simplify
returns-in-Simplify c = performed _ _ _ _ _ _ _ c.of_walk.result c.in-Simplify.is c.simplify_sound.ensures c.of_walk.ensures

pub returns-in-Prune : goal.returns-in-Prune
returns-in-Prune c = performed _ _ _ _ _ _ _ c.of_prune.result c.in-Prune.is c.prune_sound.ensures c.of_prune.ensures

pub returns-in-PruneBySetting : goal.returns-in-PruneBySetting
returns-in-PruneBySetting c = performed _ _ _ _ _ _ _ c.of_prune-in-PruneBySetting.result c.in-PruneBySetting.is c.prune_by_setting_sound.ensures c.of_prune-in-PruneBySetting.ensures
