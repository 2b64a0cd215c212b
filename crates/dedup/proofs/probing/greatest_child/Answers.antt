-- It is the greatest of the children passed.
use Rattle.std.proofs.Common.{◌≡◌, ◌∙◌, ◌+◌, ℕ, max, sym, ap, arith, rules, take, get_or, take_all, add-one}
use Rattle.dedup.specs.Probe.{greatest_child}
use Rattle.dedup.proofs.GreatestChild.{greatest_none, greatest_more}
use Rattle.dedup.proofs.probing.greatest_child.Goals as goal

pub loop-child-init : goal.loop-child-init
loop-child-init c = record { greatest = sym greatest_none; small = search rules }

pub loop-child-preserved : goal.loop-child-preserved
loop-child-preserved c =
    let t = c.args.children.now in
    let i = c.loop-child.invariant in
    let g : greatest_child (take (c.loop-child.child-index + 1) t) ≡ max (greatest_child (take c.loop-child.child-index t)) (get_or t c.loop-child.child-index 0) = ap (λ (n : ℕ). greatest_child (take n t)) (add-one c.loop-child.child-index) ∙ greatest_more c.loop-child.child-index t in
    record { greatest = omega arith; small = omega (arith, c.type_inv.children c.loop-child.child-index) }

pub returns : goal.returns
returns c =
    let t = c.args.children.now in
    (c.loop-child.invariant.greatest ∙ ap greatest_child (take_all c.loop-child.child-index t (omega arith)), c.loop-child.invariant.small)
