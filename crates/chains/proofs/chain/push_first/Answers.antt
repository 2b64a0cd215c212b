-- `chains::chain::push_first` meets its contract. Assumes nothing.
use native.Mathlib.Omega.{arith}
use borrow.Author.Rules.{rules}
use Rattle.chains.proofs.Reading.{child_limited}
use Rattle.chains.proofs.Pushing as Q
use Rattle.chains.proofs.chain.push_first.Goals as goal

pub overflow_cast-terms : goal.overflow_cast-terms
overflow_cast-terms c = omega (arith, child_limited _ _ _ c.requires.0 0 _ (omega (arith, c.requires.1)) c.child.ensures)

pub returns : goal.returns
returns c = search (rules, Q.first)
