-- `listing_lines::line::with_bytes` meets its contract.
use Prim.Native.Nat.{◌+◌, ◌-◌, ◌≤◌}
use mathlib.Core.Path.{◌≡◌}
use lib.ListN.{length}
use native.Mathlib.Omega.{arith}
use borrow.Author.Rules.{rules}
use Rattle.listing_lines.specs.Line.{line_bytes}
use Rattle.listing_lines.proofs.Lines.{copied_text, copied_rest}
use Rattle.listing_lines.proofs.line.with_bytes.Goals as goal

pub returns : goal.returns
returns c =
    let l : length c.args.line.bytes ≡ line_bytes = search rules in
    let fits : c.args.line.length + length c.args.more.now ≤ length c.args.line.bytes = omega arith in
    let n : c.args.line.length + length c.args.more.now - c.args.line.length ≡ length c.args.more.now = omega arith in
    record {
      is = copied_text c.args.line.bytes c.args.more.now c.args.line.length _ _ c.copy_from_slice.ensures.after n fits;
      longer = omega arith;
      long = omega arith;
      rest = copied_rest c.args.line.bytes c.args.more.now c.args.line.length _ _ c.copy_from_slice.ensures.after n fits;
    }
