-- `kinds::control_arity` meets its contract.
use Rattle.kinds.proofs.Listing as L
use native.Mathlib.Omega.{arith}
use Rattle.kinds.proofs.control_arity.Goals as goal

pub returns-in-2 : goal.returns-in-2
returns-in-2 c = L.four _ _ c.in-2.is
