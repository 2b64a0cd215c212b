use Rattle.std.proofs.Common.{◌≡◌, drop}
use Rattle.definitions.specs.Machine as M
use Rattle.building.proofs.all_below.Given as goal

abbrev pub invariant-loop-operand : goal.invariant-loop-operand
invariant-loop-operand l = M.all_below l.count l.operands ≡ M.all_below l.count (drop l.operand-index l.operands)
