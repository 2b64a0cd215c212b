-- `script_store::applying::apply` meets its contract.
use mathlib.Core.Path.{sym}
use lib.Seq.{length-take-le}
use native.Mathlib.Omega.{arith}
use Rattle.script_store.proofs.Operands.{operands}
use Rattle.script_store.proofs.applying.apply.Goals as goal

pub overflow_cast-children : goal.overflow_cast-children
overflow_cast-children g c = let r = c.ready.ensures c.if-not-ready.false in omega (arith, r.right, r.whole.nodes.formed.many)

pub overflow_cast-children-2 : goal.overflow_cast-children-2
overflow_cast-children-2 g c = let r = c.ready.ensures c.if-not-ready.false in omega (arith, r.left, r.whole.nodes.formed.many)

pub slice_bounds-try_apply-end : goal.slice_bounds-try_apply-end
slice_bounds-try_apply-end g c = sym (length-take-le _ _ (let l = c.if-arity.false in omega arith))

pub try_apply-requires : goal.try_apply-requires
try_apply-requires g c =
    let r = c.ready.ensures c.if-not-ready.false in
    (operands r _ c.if-arity.false, r.whole)
