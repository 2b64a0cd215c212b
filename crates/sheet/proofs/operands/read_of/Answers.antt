-- `sheet::operands::read_of` meets its contract.
use mathlib.Core.Path.{◌∙◌}
use native.Mathlib.Omega.{arith}
use Rattle.sheet.proofs.Calls.{read_least}
use Rattle.sheet.proofs.operands.read_of.Goals as goal

pub returns : goal.returns
returns c = (c.min.ensures ∙ read_least c.args.operands, omega arith)
