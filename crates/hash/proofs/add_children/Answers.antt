-- The sum is the hash over the children passed.
use Rattle.std.proofs.Common.{refl, sym, arith}
use Rattle.hash.specs.Fnv.{fnv_from, children_bytes}
use Rattle.hash.proofs.Appending.{child_more, all_children}
use Rattle.hash.proofs.add_children.Goals as goal

pub loop-child-init : goal.loop-child-init
unfolding fnv_from children_bytes
loop-child-init g c = refl

pub loop-child-preserved : goal.loop-child-preserved
loop-child-preserved g c = rw (c.add_u32-sum.ensures, c.value.ensures, c.loop-child.invariant) (child_more g.T.Child.value _ _ _ _ (omega arith) (sym c.child-item.is))

pub returns : goal.returns
returns g c = rw (c.loop-child.invariant, all_children g.T.Child.value c.args.children.now c.loop-child.child-index (omega arith)) refl
