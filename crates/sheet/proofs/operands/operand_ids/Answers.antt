use Prim.Native.Nat.{ℕ}
use mathlib.Core.Path.{◌≡◌, refl, subst}
use mathlib.Core.List.{map}
use lib.ListN.{take}
use native.Mathlib.Omega.{arith}
use Rattle.records.specs.Reading.{operands_from}
use Rattle.sheet.specs.Running.{id_below}
use Rattle.sheet.proofs.Placing.{placed_none, placed_more}
use Rattle.sheet.proofs.operands.operand_ids.Goals as goal

pub loop-k-init : goal.loop-k-init
loop-k-init c = placed_none _ _ _ _ _ refl

pub operand-operand-requires : goal.operand-operand-requires
operand-operand-requires c = omega arith

pub operand_id-requires : goal.operand_id-requires
operand_id-requires c = (c.requires.2, c.requires.3, c.requires.4)

pub offset_bounds-children-k : goal.offset_bounds-children-k
offset_bounds-children-k c = let d = c.loop-k.invariant in let l = d.long in omega arith

pub bounds-children-k : goal.bounds-children-k
bounds-children-k c = let d = c.loop-k.invariant in let l = d.long in omega arith

pub loop-k-preserved : goal.loop-k-preserved
loop-k-preserved c = placed_more _ _ _ _ _ _ c.loop-k.invariant (omega arith) (omega arith) _ _ c.operand-operand.ensures c.operand_id.ensures

pub returns : goal.returns
returns c =
    let a = c.args in
    let d = c.loop-k.invariant in
    let w = d.within in
    let e : c.loop-k.k ≡ a.operands = omega arith in
    subst (λ (i : ℕ). take i c.loop-k.children ≡ map (id_below a.ids.now a.done a.count) (operands_from a.sheet.now a.first i)) e d.is
