use Rattle.building.proofs.Operands.{below_stops, below_next, below_ends}
use Rattle.std.proofs.Common.{arith}
use Rattle.building.proofs.all_below.Goals as goal

pub returns-then-count-from : goal.returns-then-count-from
returns-then-count-from c = below_stops c.args.count c.args.operands.now c.loop-operand.operand-index c.loop-operand.invariant (omega arith) (omega arith)

pub loop-operand-preserved : goal.loop-operand-preserved
loop-operand-preserved c = below_next c.args.count c.args.operands.now c.loop-operand.operand-index c.loop-operand.invariant (omega arith) (omega arith)

pub returns : goal.returns
returns c = below_ends c.args.count c.args.operands.now c.loop-operand.operand-index c.loop-operand.invariant (omega arith)
