use mathlib.Core.Path.{◌≡◌, sym, ap, ◌∙◌}
use mathlib.Core.Bool.{true, false}
use mathlib.Core.Option.{some}
use lib.Dec.{eqb}
use borrow.Author.Tests.{eq-eqb}
use Rattle.std.proofs.Common.{rules}
use Rattle.definitions.specs.Node.{Node, at, constant_kind}
use Rattle.definitions.specs.Patterns as P
use Rattle.store.specs.View.{nodes_in}
use Rattle.decisions.proofs.Values.{is_constant}
use Rattle.identities.proofs.Constants.{one_built, one_number}
use Rattle.identities.proofs.div_identity.Goals as goal

pub returns-then-is_some : goal.returns-then-is_some
unfolding P.div_identity
returns-then-is_some c =
    let ns = nodes_in c.args.nodes.now c.args.count in
    let over_one : P.is_one (P.constant_value (at ns c.args.rhs)) ≡ false = search rules in
    let of_zero : P.is_zero (P.constant_value (at ns c.args.lhs)) ≡ false = search rules in
    let same : eqb c.args.lhs c.args.rhs ≡ true = eq-eqb _ _ c.if-lhs-rhs.true in
    let constant : eqb (at ns c.args.lhs).kind constant_kind ≡ true =
    is_constant (at ns c.args.lhs) c.constant_value-x.result c.constant_value-x.ensures (sym c.is_some.ensures ∙ c.if-is_some.true) in
    record { is = λ l. rw (over_one, of_zero, same, constant) (ap some (one_built l ns)); low = one_number }
