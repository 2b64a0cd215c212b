use Rattle.std.proofs.Common.{◌+◌}
use Rattle.writer.proofs.Steps.{At}
use Rattle.writer.proofs.placing.+put.Given as goal

-- Each call is at an operand, or at the same node with less left to nest.
abbrev pub decreases-put : goal.decreases-put
decreases-put l = l.id + l.left

abbrev pub invariant-loop-high : goal.invariant-loop-high
invariant-loop-high l = At l.formulas.nodes.now l.formulas.count l.formulas.entries.now l.formulas.named l.id l.level l.left l.fn.out l.from l.out l.node l.high l.first

abbrev pub decreases-loop-high : goal.decreases-loop-high
decreases-loop-high l = l.node
