-- `arena::node::has_parts` meets its contract: each test that fails is a part in which the nodes differ.
use mathlib.Core.Path.{◌∙◌}
use native.Mathlib.Omega.{arith}
use Rattle.arena.specs.Node.{node_at, node_of}
use Rattle.arena.proofs.OneNode.{not_one, one_children}
use Rattle.arena.proofs.Comparing.{used_compared}
use borrow.Author.Rules.{rules}
use Rattle.arena.proofs.node.has_parts.Goals as goal

pub returns-then-nodes-at : goal.returns-then-nodes-at
unfolding node_at node_of
returns-then-nodes-at c = not_one _ _ (λ o. c.if-nodes-at.true o.kind)

pub returns-then-nodes-at-2 : goal.returns-then-nodes-at-2
unfolding node_at node_of
returns-then-nodes-at-2 c = not_one _ _ (λ o. c.if-nodes-at-2.true o.payload)

pub returns-then-nodes-at-3 : goal.returns-then-nodes-at-3
unfolding node_at node_of
returns-then-nodes-at-3 c = not_one _ _ (λ o. c.if-nodes-at-3.true o.flags)

pub returns-then-nodes-at-4 : goal.returns-then-nodes-at-4
unfolding node_at node_of
returns-then-nodes-at-4 c = not_one _ _ (λ o. c.if-nodes-at-4.true o.arity)

pub has_children-requires : goal.has_children-requires
has_children-requires c = let few = c.args.parts.few in let fits = c.requires.0 in omega arith

pub returns : goal.returns
unfolding node_at node_of
returns c = c.has_children.ensures ∙ used_compared c.args.nodes.now c.args.id c.args.parts.children.now c.args.parts.few c.if-nodes-at-4.false c.requires.1 ∙ one_children _ _ c.if-nodes-at.false c.if-nodes-at-2.false c.if-nodes-at-3.false c.if-nodes-at-4.false
