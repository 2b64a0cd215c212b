use native.Mathlib.Omega.{arith}
use Rattle.records.proofs.Bodies as B
use Rattle.records.proofs.decoding.decode.Goals as goal

pub returns-then-length-eq0 : goal.returns-then-length-eq0
returns-then-length-eq0 c = let a = c.args in B.body_empty a.sheet.now a.at a.length c.if-length-eq0.true

pub returns-in-1 : goal.returns-in-1
returns-in-1 c = B.body_known _ _ _ c.requires (omega arith) 1 c.in-1.is _ c.variable_body.ensures

pub returns-in-2 : goal.returns-in-2
returns-in-2 c = B.body_known _ _ _ c.requires (omega arith) 2 c.in-2.is _ c.constant_body.ensures

pub returns-in-3 : goal.returns-in-3
returns-in-3 c = B.body_known _ _ _ c.requires (omega arith) 3 c.in-3.is _ c.operator_body.ensures

pub returns-in-4 : goal.returns-in-4
returns-in-4 c = B.body_known _ _ _ c.requires (omega arith) 4 c.in-4.is _ c.function_body.ensures

pub returns-in-5 : goal.returns-in-5
returns-in-5 c = B.body_known _ _ _ c.requires (omega arith) 5 c.in-5.is _ c.control_body.ensures

pub returns-in-6 : goal.returns-in-6
returns-in-6 c = B.body_known _ _ _ c.requires (omega arith) 6 c.in-6.is _ c.simplify_body.ensures

pub returns-in-7 : goal.returns-in-7
returns-in-7 c = B.body_known _ _ _ c.requires (omega arith) 7 c.in-7.is _ c.prune_body.ensures

pub returns-in-8 : goal.returns-in-8
returns-in-8 c = B.body_known _ _ _ c.requires (omega arith) 8 c.in-8.is _ c.simplify_body-in-8.ensures

pub returns-in_default : goal.returns-in_default
returns-in_default c = B.body_unknown _ _ _ c.requires (omega arith) (λ e. omega arith) (λ e. omega arith) (λ e. omega arith) (λ e. omega arith) (λ e. omega arith) (λ e. omega arith) (λ e. omega arith) (λ e. omega arith)
