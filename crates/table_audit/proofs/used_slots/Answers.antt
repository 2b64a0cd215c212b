-- As many of the slots passed are in use.
use Rattle.std.proofs.Common.{◌≡◌, ◌<◌, ◌∙◌, ◌+◌, suc, sym, ap, arith, rules, add-one, List, ℕ, length, take}
use lib.Seq.{get_or-take, length-take-le}
use Rattle.table_audit.specs.Audit.{used_slots}
use Rattle.table_audit.proofs.UsedSlots.{used_none, used_empty, used_more}
use Rattle.table_audit.proofs.used_slots.Goals.{then-slot-ne0, else-slot-ne0}
use Rattle.table_audit.proofs.used_slots.Goals as goal

pub loop-slot-init : goal.loop-slot-init
loop-slot-init c = record { counted = sym (used_none _); few = search rules }

pub loop-slot-preserved : goal.loop-slot-preserved
loop-slot-preserved c =
    let s : List ℕ = c.args.slots.now in
    let at : ℕ = c.loop-slot.slot-index in
    let l : at < c.args.size = omega (arith, length-take-le c.args.size s c.requires) in
    let slot = get_or-take c.args.size s at 0 l in
    let i = c.loop-slot.invariant in
    elim c.if-slot-ne0.branch [
      | then-slot-ne0 x ↦ let u : used_slots s (at + 1) ≡ suc (used_slots s at) = ap (used_slots s) (add-one at) ∙ used_more s at (λ z. x.if-slot-ne0.true (slot ∙ z)) in record { counted = omega arith; few = omega arith }
      | else-slot-ne0 x ↦ let u : used_slots s (at + 1) ≡ used_slots s at = ap (used_slots s) (add-one at) ∙ used_empty s at (sym slot ∙ x.if-slot-ne0.false) in record { counted = omega arith; few = omega arith }
    ]

pub returns : goal.returns
returns c =
    let e : c.loop-slot.slot-index ≡ c.args.size = omega (arith, length-take-le c.args.size c.args.slots.now c.requires) in
    c.loop-slot.invariant.counted ∙ ap (used_slots c.args.slots.now) e
