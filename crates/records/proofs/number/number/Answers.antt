-- `records::number::number` meets its contract. The loop's invariant: the value is that of the bytes passed.
use Prim.Native.Nat.{ℕ, ◌+◌, ◌*◌, ◌<◌}
use mathlib.Core.Path.{◌≡◌, sym, subst, ◌∙◌}
use lib.ListN.{get_or}
use native.Mathlib.Omega.{arith}
use Rattle.std.proofs.lemmas.List.Edits.{length-between}
use Rattle.records.specs.Reading.{Number}
use Rattle.records.proofs.Parts.{number_none, number_more, number_room, inside, byte_of}
use Rattle.records.proofs.number.number.Goals as goal

pub loop-byte-init : goal.loop-byte-init
loop-byte-init c = number_none _ _

pub overflow_mul-value : goal.overflow_mul-value
overflow_mul-value c =
    let i : c.loop-byte.byte-index < c.args.width = inside _ _ _ _ c.requires.1 c.loop-byte-test.true in
    let h : c.loop-byte.value * 256 + 255 < 18446744073709551616 = number_room _ _ _ _ c.loop-byte.invariant (omega arith) in
    omega arith

pub overflow_add-value : goal.overflow_add-value
overflow_add-value c =
    let i : c.loop-byte.byte-index < c.args.width = inside _ _ _ _ c.requires.1 c.loop-byte-test.true in
    let h : c.loop-byte.value * 256 + 255 < 18446744073709551616 = number_room _ _ _ _ c.loop-byte.invariant (omega arith) in
    let e : c.from.result ≡ get_or c.args.sheet.now (c.args.at + c.loop-byte.byte-index) 0 = c.from.ensures ∙ byte_of _ _ _ _ c.requires.1 c.loop-byte-test.true in
    omega (arith, (c.type_inv.sheet (c.args.at + c.loop-byte.byte-index)).fits)

pub loop-byte-preserved : goal.loop-byte-preserved
loop-byte-preserved c =
    let i : c.loop-byte.byte-index < c.args.width = inside _ _ _ _ c.requires.1 c.loop-byte-test.true in
    subst (λ (x : ℕ). Number c.args.sheet.now c.args.at (c.loop-byte.byte-index + 1) (c.loop-byte.value * 256 + x)) (sym (c.from.ensures ∙ byte_of _ _ _ _ c.requires.1 c.loop-byte-test.true))
    (number_more _ _ _ _ c.loop-byte.invariant (c.type_inv.sheet (c.args.at + c.loop-byte.byte-index)).fits (omega arith))

pub returns : goal.returns
returns c =
    let n = c.loop-byte.auto.byte-index-end in
    let e : c.loop-byte.byte-index ≡ c.args.width = omega (arith, length-between c.args.sheet.now c.args.at (c.args.at + c.args.width) c.requires.1) in
    subst (λ (k : ℕ). Number c.args.sheet.now c.args.at k c.loop-byte.value) e c.loop-byte.invariant
