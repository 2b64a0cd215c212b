-- `listing_reader::node::children_at` meets its contract. The loop's invariant: the children passed are read, and are the first of any that stand there.
use Prim.Native.Nat.{ℕ}
use mathlib.Core.Path.{◌≡◌, refl, subst}
use native.Mathlib.Omega.{arith}
use Rattle.arena.specs.Layout.{most_children}
use Rattle.listing_reader.proofs.ChildLines.{ChildrenRead, none_read, one_read, children_stop, children_full}
use Rattle.listing_reader.proofs.node.children_at.Goals as goal

pub loop-count-init : goal.loop-count-init
loop-count-init c = none_read _ _

pub returns-in_default : goal.returns-in_default
returns-in_default c = children_stop c.loop-count.invariant c.ended.ensures c.spaced_decimal_at.ensures c.in_default.is

pub loop-count-preserved : goal.loop-count-preserved
loop-count-preserved c = one_read c.loop-count.invariant c.in-Some.ensures refl (omega arith)

pub returns : goal.returns
returns c =
    let n = c.loop-count.auto.count-end in
    let e : c.loop-count.count ≡ most_children = omega arith in
    children_full (subst (λ (k : ℕ). ChildrenRead c.args.bytes.now c.args.at c.loop-count.places k c.loop-count.next) e c.loop-count.invariant) c.ended-2.ensures (omega arith)
