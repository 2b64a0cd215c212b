use mathlib.Core.Path.{◌≡◌}
use lib.ListN.{length}
use native.Mathlib.Omega.{arith}
use Rattle.listing_lines.proofs.Lines.{extends_part}
use borrow.Author.Rules.{rules}
use Rattle.listing_lines.proofs.digits.with_digits.Goals as goal

pub slice_bounds-with_bytes-end : goal.slice_bounds-with_bytes-end
slice_bounds-with_bytes-end c = let l : length c.args.digits.bytes ≡ 20 = search rules in omega arith

pub returns : goal.returns
returns c =
    let d = c.args.digits in
    let l : length c.args.digits.bytes ≡ 20 = search rules in
    extends_part d.bytes d.first l c.with_bytes.ensures
