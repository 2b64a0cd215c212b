use mathlib.Core.Path.{refl}
use Rattle.sheet.specs.Running.{id_below}
use Rattle.sheet.proofs.Calls.{asks_alone, asks_over, asks_simplify, asks_prune}
use Rattle.sheet.proofs.performing.request_of.Goals as goal

pub returns-in-Variable : goal.returns-in-Variable
returns-in-Variable c = let a = c.args in λ s w. asks_alone a.body (id_below a.ids.now a.done a.count) _ c.in-Variable.is s _ refl c.alone.result c.alone.ensures

pub returns-in-Constant : goal.returns-in-Constant
returns-in-Constant c = let a = c.args in λ s w. asks_alone a.body (id_below a.ids.now a.done a.count) _ c.in-Constant.is s _ refl c.alone-in-Constant.result c.alone-in-Constant.ensures

pub returns-in-Operator : goal.returns-in-Operator
returns-in-Operator c = let a = c.args in λ s w. asks_over a.body (id_below a.ids.now a.done a.count) _ c.in-Operator.is s _ _ _ w (λ h. h) refl

pub returns-in-Function : goal.returns-in-Function
returns-in-Function c = let a = c.args in λ s w. asks_over a.body (id_below a.ids.now a.done a.count) _ c.in-Function.is s _ _ _ w (λ h. h) refl

pub returns-in-Control : goal.returns-in-Control
returns-in-Control c = let a = c.args in λ s w. asks_over a.body (id_below a.ids.now a.done a.count) _ c.in-Control.is s _ _ _ w (λ h. h) refl

pub returns-in-Simplify : goal.returns-in-Simplify
returns-in-Simplify c = let a = c.args in λ s w. asks_simplify a.body (id_below a.ids.now a.done a.count) s c.alone-in-Simplify.result _ _ _ _ _ c.in-Simplify.is c.operand_id.ensures c.alone-in-Simplify.ensures

pub returns-in-Prune : goal.returns-in-Prune
returns-in-Prune c = let a = c.args in λ s w. asks_prune a.body (id_below a.ids.now a.done a.count) s c.alone-in-Prune.result _ _ _ c.in-Prune.is c.operand_id-in-Prune.ensures c.alone-in-Prune.ensures
