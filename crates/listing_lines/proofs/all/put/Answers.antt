-- `listing_lines::all::put` meets its contract.
use Prim.Native.Nat.{◌+◌, ◌-◌}
use mathlib.Core.Path.{◌≡◌, refl}
use lib.ListN.{length}
use native.Mathlib.Omega.{arith}
use Rattle.listing_lines.proofs.Lines.{copied_text, copied_rest}
use Rattle.listing_lines.proofs.all.put.Goals as goal

pub returns : goal.returns
returns c =
    let n : c.args.at + length c.args.more.now - c.args.at ≡ length c.args.more.now = omega arith in
    record {
      is = copied_text c.args.out.now c.args.more.now c.args.at _ _ c.copy_from_slice.ensures.after n c.requires;
      place = refl;
      rest = copied_rest c.args.out.now c.args.more.now c.args.at _ _ c.copy_from_slice.ensures.after n c.requires;
    }
