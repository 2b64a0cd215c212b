use mathlib.Core.Path.{sym}
use native.Mathlib.Omega.{arith}
use Rattle.outputs.proofs.leaving.number_of.Goals as goal

pub returns-then-spent : goal.returns-then-spent
returns-then-spent c = (sym c.if-spent.true, omega arith)

pub returns-else-spent : goal.returns-else-spent
returns-else-spent c = (sym c.if-spent.false, omega arith)
