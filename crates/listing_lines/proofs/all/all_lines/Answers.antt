use mathlib.Core.Path.{refl}
use native.Mathlib.Omega.{arith}
use borrow.Author.Rules.{rules}
use Rattle.listing_lines.proofs.Gathering.{gathered_first, gathered_more, gathered_all, first_is}
use Rattle.listing_lines.proofs.all.all_lines.Goals as goal

pub put_line-at-requires : goal.put_line-at-requires
put_line-at-requires c = (c.first_line.ensures.within, search rules)

pub loop-id-init : goal.loop-id-init
loop-id-init c = (refl, search rules, gathered_first _ _ c.first_line.ensures _ _ _ c.put_line-at.ensures _ _)

pub node_line_sound-requires : goal.node_line_sound-requires
node_line_sound-requires c = record { below = omega arith; nodes = c.requires.0 }

pub put_line-at-requires-in-loop-id : goal.put_line-at-requires-in-loop-id
put_line-at-requires-in-loop-id c = (c.node_line_sound.ensures.within, let g = c.loop-id.invariant.2.place in let r = c.loop-id.invariant.1 in omega arith)

pub loop-id-preserved : goal.loop-id-preserved
loop-id-preserved c = (search rules, search rules, gathered_more _ _ _ _ _ _ _ _ c.loop-id.invariant.2 (omega arith) _ c.node_line_sound.ensures _ _ c.put_line-at-in-loop-id.ensures)

pub shape_of-out : goal.shape_of-out
shape_of-out c = let l = c.loop-id.invariant.0 in search rules

pub returns : goal.returns
returns c =
    let gathered = c.loop-id.invariant.2 in
    let first = c.put_line-at.ensures in
    record { fills = gathered_all _ _ _ _ _ _ _ _ _ gathered (search rules) first.rest (omega arith) c.loop-id.invariant.1 _ (first_is _ _ c.first_line.ensures _ _ _ first); at_most_full = let g = gathered.place in let k = gathered.some in omega arith }
