use Rattle.sheet.specs.Running.{id_below}
use Rattle.sheet.proofs.Placing.{IdsPlaced}
use Rattle.sheet.proofs.operands.operand_ids.Given as goal

abbrev pub invariant-loop-k : goal.invariant-loop-k
invariant-loop-k l = IdsPlaced (id_below l.ids l.done l.count) l.sheet l.first l.operands l.children l.k
