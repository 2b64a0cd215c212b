-- `kinds::operator_arity` meets its contract: by the digits of the kind.
use borrow.Author.Rules.{rules}
use Rattle.kinds.proofs.Listing as L
use Rattle.kinds.proofs.operator_arity.Goals as goal

pub returns-then-arity-below : goal.returns-then-arity-below
returns-then-arity-below c = L.too_few _ _ c.requires.0 c.requires.1 c.if-arity-below.true

pub returns : goal.returns
returns c = L.enough _ _ c.requires.0 c.requires.1 c.if-arity-below.false
