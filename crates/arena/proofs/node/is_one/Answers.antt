-- `arena::node::is_one` meets its contract: each test that fails is a part in which the nodes differ.
use mathlib.Core.Path.{◌∙◌}
use native.Mathlib.Omega.{arith}
use Rattle.arena.specs.Node.{node_at}
use Rattle.arena.proofs.OneNode.{not_one, one_children}
use borrow.Author.Rules.{rules}
use Rattle.arena.proofs.node.is_one.Goals as goal

pub returns-then-nodes-a : goal.returns-then-nodes-a
unfolding node_at
returns-then-nodes-a c = not_one _ _ (λ o. c.if-nodes-a.true o.kind)

pub returns-then-nodes-a-2 : goal.returns-then-nodes-a-2
unfolding node_at
returns-then-nodes-a-2 c = not_one _ _ (λ o. c.if-nodes-a-2.true o.payload)

pub returns-then-nodes-a-3 : goal.returns-then-nodes-a-3
unfolding node_at
returns-then-nodes-a-3 c = not_one _ _ (λ o. c.if-nodes-a-3.true o.flags)

pub returns-then-nodes-a-4 : goal.returns-then-nodes-a-4
unfolding node_at
returns-then-nodes-a-4 c = not_one _ _ (λ o. c.if-nodes-a-4.true o.arity)

pub returns : goal.returns
unfolding node_at
returns c = c.same_words.ensures ∙ one_children _ _ c.if-nodes-a.false c.if-nodes-a-2.false c.if-nodes-a-3.false c.if-nodes-a-4.false
