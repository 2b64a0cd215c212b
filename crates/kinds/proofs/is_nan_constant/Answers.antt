-- `kinds::is_nan_constant` meets its contract.
use borrow.Author.Rules.{rules}
use Rattle.kinds.proofs.Listing as L
use Rattle.kinds.proofs.is_nan_constant.Goals as goal

pub returns-then-kind-eq-CONSTANT : goal.returns-then-kind-eq-CONSTANT
returns-then-kind-eq-CONSTANT c = L.constant_tested _ _ _ c.if-kind-eq-CONSTANT.true c.is_nan.ensures

pub returns : goal.returns
returns c = L.no_constant_tested _ _ c.if-kind-eq-CONSTANT.false
