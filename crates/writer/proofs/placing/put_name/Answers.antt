use Rattle.std.proofs.Common.{◌≡◌, ◌+◌, ◌-◌, ◌*◌, ℕ, List, get_or, set, refl, sym, ap, ◌∙◌, arith}
use Rattle.std.proofs.Math.ListN.{length-set}
use Rattle.std.proofs.Math.Seq.{paste, paste-zero}
use Rattle.std.proofs.lemmas.List.Edits.{paste_more}
use Rattle.name_entries.specs.Sound as Names
use Rattle.writer.proofs.InFront.{name_length, name_byte, name_put}
use Rattle.writer.proofs.placing.put_name.Goals as goal

pub loop-i-init : goal.loop-i-init
loop-i-init c = record { written = paste-zero c.args.out.now (c.args.at - c.from-size.result) (Names.name_at c.args.entries.now c.args.symbol); long = refl }

pub loop-i-preserved : goal.loop-i-preserved
loop-i-preserved c =
    let m = c.requires.0 in
    let o = c.requires.1 in
    let g = m.short in
    let l = o.low in
    let h = o.high in
    let w = o.long in
    let size = c.from-size.ensures in
    let i = c.loop-i.invariant in
    let n = name_length m in
    let place : ℕ = c.args.at - c.from-size.result + c.loop-i.i in
    let byte : get_or (Names.name_at c.args.entries.now c.args.symbol) c.loop-i.i 0 ≡ get_or c.args.entries.now (c.args.symbol * 33 + 1 + c.loop-i.i) 0
    = name_byte m c.loop-i.i (omega arith) ∙ ap (λ (k : ℕ). get_or c.args.entries.now k 0) (omega arith) in
    record {
      written =
          ap (λ (x : List ℕ). set x place (get_or c.args.entries.now (c.args.symbol * 33 + 1 + c.loop-i.i) 0)) i.written
          ∙ ap (set _ place) (sym byte)
          ∙ paste_more c.args.out.now (c.args.at - c.from-size.result) (Names.name_at c.args.entries.now c.args.symbol) c.loop-i.i 0 (omega arith) (omega arith);
      long = length-set c.loop-i.out place _ ∙ i.long;
    }

pub returns : goal.returns
returns c =
    let i = c.loop-i.auto in
    let e : c.loop-i.i ≡ c.from-size.result = omega arith in
    name_put c.requires.0 c.args.at c.args.out.now (Names.name_at c.args.entries.now c.args.symbol) c.loop-i.out c.requires.1 c.from-size.result c.from-size.ensures refl
    (c.loop-i.invariant.written ∙ ap (paste c.args.out.now (c.args.at - c.from-size.result) (Names.name_at c.args.entries.now c.args.symbol)) e)
