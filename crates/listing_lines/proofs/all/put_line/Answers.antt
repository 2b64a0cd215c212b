use mathlib.Core.Path.{◌≡◌, sym}
use lib.ListN.{length, take}
use lib.Seq.{length-take-le}
use native.Mathlib.Omega.{arith}
use borrow.Author.Rules.{rules}
use Rattle.listing_lines.specs.Line.{line_bytes}
use Rattle.listing_lines.proofs.all.put_line.Goals as goal

pub slice_bounds-bytes-end : goal.slice_bounds-bytes-end
slice_bounds-bytes-end c = let l : length c.args.line.bytes ≡ line_bytes = search rules in omega (arith, c.requires.0)

pub slice_bounds-put-end : goal.slice_bounds-put-end
slice_bounds-put-end c = let l : length c.args.line.bytes ≡ line_bytes = search rules in sym (length-take-le _ _ (omega (arith, c.requires.0)))

pub put-requires : goal.put-requires
put-requires c = let l : length c.args.line.bytes ≡ line_bytes = search rules in let e : length (take c.args.line.length c.args.line.bytes) ≡ c.args.line.length = length-take-le _ _ (omega (arith, c.requires.0)) in omega (arith, c.requires.0, c.requires.1)
