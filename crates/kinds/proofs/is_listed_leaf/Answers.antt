-- `kinds::is_listed_leaf` meets its contract.
use mathlib.Core.Path.{ap, ◌∙◌}
use mathlib.Core.Bool.{not}
use borrow.Author.Rules.{rules}
use Rattle.kinds.proofs.Listing as L
use Rattle.kinds.proofs.is_listed_leaf.Goals as goal

pub returns-then-arity-ne0 : goal.returns-then-arity-ne0
returns-then-arity-ne0 c = L.leaf_children _ _ _ c.requires c.if-arity-ne0.true

pub returns-then-kind-eq-CONSTANT : goal.returns-then-kind-eq-CONSTANT
returns-then-kind-eq-CONSTANT c = ap not c.is_nan.ensures ∙ L.leaf_constant _ _ _ c.if-kind-eq-CONSTANT.true c.if-arity-ne0.false

pub returns : goal.returns
returns c = L.leaf_variable _ _ _ c.requires c.if-kind-eq-CONSTANT.false c.if-arity-ne0.false
