-- `chains::chain::push_siblings` meets its contract. Assumes nothing.
use Rattle.chains.specs.Terms.{children_in}
use Rattle.chains.proofs.Pushing.{Pushing}
use Rattle.chains.proofs.chain.push_siblings.Given as goal

abbrev pub invariant-loop-place : goal.invariant-loop-place
invariant-loop-place l = Pushing (children_in l.nodes l.count l.id) l.top l.free l.initial.terms l.terms l.to l.place
