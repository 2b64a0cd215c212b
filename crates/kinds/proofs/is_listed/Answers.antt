-- `kinds::is_listed` meets its contract: by the range of the kind.
use native.Mathlib.Omega.{arith}
use mathlib.Core.Path.{◌∙◌}
use borrow.Author.Rules.{rules}
use Rattle.kinds.proofs.Listing as L
use Rattle.kinds.proofs.is_listed.Goals as goal

pub returns-then-payload-eq0 : goal.returns-then-payload-eq0
returns-then-payload-eq0 c = c.operator_arity.ensures ∙ L.operator _ _ _ (omega arith) (omega arith) c.if-payload-eq0.true

pub returns-else-payload-eq0 : goal.returns-else-payload-eq0
returns-else-payload-eq0 c = L.operator_payload _ _ _ (omega arith) (omega arith) c.if-payload-eq0.false
