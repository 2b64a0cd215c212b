use Rattle.sheet.proofs.Clamping.{id_late, id_high, id_noted}
use Rattle.sheet.proofs.operands.operand_id.Goals as goal

pub returns-then-done-operand : goal.returns-then-done-operand
returns-then-done-operand c = let a = c.args in id_late a.ids.now a.done a.count a.operand c.if-done-operand.true

pub returns-then-count-id : goal.returns-then-count-id
returns-then-count-id c = let a = c.args in id_high a.ids.now a.done a.count a.operand c.if-done-operand.false c.if-count-id.true

pub returns : goal.returns
returns c = let a = c.args in id_noted a.ids.now a.done a.count a.operand c.if-done-operand.false c.if-count-id.false
