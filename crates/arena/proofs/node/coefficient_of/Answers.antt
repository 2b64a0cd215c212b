-- `arena::node::coefficient_of` meets its contract.
use mathlib.Core.Path.{refl}
use borrow.Author.Tests.{eq-eqb, ne_eqb}
use Rattle.arena.specs.Node.{coefficient}
use Rattle.arena.proofs.node.coefficient_of.Goals as goal

pub returns-then-kind-eq-CONSTANT : goal.returns-then-kind-eq-CONSTANT
unfolding coefficient
returns-then-kind-eq-CONSTANT c = rw (eq-eqb _ _ c.if-kind-eq-CONSTANT.true) refl

pub returns-else-kind-eq-CONSTANT : goal.returns-else-kind-eq-CONSTANT
unfolding coefficient
returns-else-kind-eq-CONSTANT c = rw (ne_eqb _ _ c.if-kind-eq-CONSTANT.false) refl
