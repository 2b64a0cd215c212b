-- `chains::chain::has_term` meets its contract. Assumes nothing.
use mathlib.Core.Path.{sym, ◌∙◌}
use mathlib.Core.Bool.{false≢true}
use native.Mathlib.Omega.{arith}
use Rattle.chains.proofs.Reading.{child_below, term_so}
use Rattle.chains.proofs.chain.has_term.Goals as goal

pub arity-requires : goal.arity-requires
arity-requires c = c.requires.2.lookup _ c.requires.0

pub returns-then-arity-ne2 : goal.returns-then-arity-ne2
returns-then-arity-ne2 c = λ e. absurd (false≢true e)

pub child-requires : goal.child-requires
child-requires c = let p = c.requires in (omega (arith, p.1, c.arity.ensures, c.if-arity-ne2.false), p.2.lookup _ p.0)

pub kind-requires : goal.kind-requires
kind-requires c =
    let p = c.requires in
    p.2.lookup _ (child_below _ _ p.2 _ _ _ p.0 c.child.ensures (omega (arith, p.1, c.arity.ensures, c.if-arity-ne2.false)))

pub returns : goal.returns
returns c = λ is. record { two = sym c.arity.ensures ∙ c.if-arity-ne2.false; term = term_so _ _ _ _ _ _ c.child.ensures c.kind.ensures is }
