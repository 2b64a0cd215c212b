-- The children passed are written over places that are 0.
use Rattle.std.proofs.Common.{◌≡◌, ◌+◌, ℕ, List, length, get_or, set, ap, sym, refl, ◌∙◌, arith, rules}
use Rattle.std.proofs.Math.ListN.{length-set}
use Rattle.std.proofs.Math.Seq.{paste, paste-zero}
use Rattle.std.proofs.lemmas.List.Edits.{paste_more}
use Rattle.arena.proofs.Places.{cleared}
use Rattle.arena.proofs.node.store_ids.Goals as goal

pub loop-j-init : goal.loop-j-init
loop-j-init c = record { written = paste-zero _ c.args.at c.args.children.now; long = refl; fits = let k = c.clear_places.auto.nodes in let p = c.requires.0 in omega arith }

pub loop-j-preserved : goal.loop-j-preserved
loop-j-preserved c =
    let i = c.loop-j.invariant in
    let few = c.requires.1 in
    record {
      written = ap (λ (x : List ℕ). set x (c.args.at + c.loop-j.j) c.from.result) i.written ∙ ap (set _ (c.args.at + c.loop-j.j)) c.from.ensures ∙ paste_more _ c.args.at c.args.children.now c.loop-j.j 0 (let f = i.fits in omega arith) (omega arith);
      long = length-set c.loop-j.nodes (c.args.at + c.loop-j.j) _ ∙ i.long;
      fits = i.fits;
    }

pub shape_of-nodes : goal.shape_of-nodes
shape_of-nodes c = c.loop-j.invariant.long ∙ c.clear_places.auto.nodes

pub returns : goal.returns
returns c =
    let e : c.loop-j.j ≡ length c.args.children.now = omega arith in
    c.loop-j.invariant.written ∙ ap (paste _ c.args.at c.args.children.now) e ∙ ap (λ (x : List ℕ). paste x c.args.at c.args.children.now (length c.args.children.now)) c.clear_places.ensures ∙ cleared c.args.nodes.now c.args.at c.args.children.now c.requires.0 c.requires.1
