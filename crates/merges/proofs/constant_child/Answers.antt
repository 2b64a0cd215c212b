use native.Mathlib.Omega.{arith}
use Rattle.decisions.proofs.Children.{child_lookup}
use Rattle.merges.proofs.Splitting as Splitting
use Rattle.merges.proofs.constant_child.Goals as goal

pub constant_value-requires : goal.constant_value-requires
constant_value-requires c = child_lookup c.requires c.child-lhs.ensures (omega (arith, c.arity.ensures, c.if-arity-ne2.false))

pub returns-in-Some : goal.returns-in-Some
returns-in-Some c = Splitting.constant_first c.requires _ c.kind.ensures c.arity.ensures c.if-kind.false c.if-arity-ne2.false c.child-lhs.ensures c.child-rhs.ensures _ c.in-Some.ensures

pub constant_value-requires-2 : goal.constant_value-requires-2
constant_value-requires-2 c = child_lookup c.requires c.child-rhs.ensures (omega (arith, c.arity.ensures, c.if-arity-ne2.false))

pub returns : goal.returns
returns c = Splitting.constant_second c.requires _ c.kind.ensures c.arity.ensures c.if-kind.false c.if-arity-ne2.false c.child-lhs.ensures c.child-rhs.ensures c.in_default.ensures _ c.in_ok-bits.ensures
