-- `name_entries::entry::of_name` meets its contract: the name is copied behind its length.
use Prim.Native.Nat.{◌+◌, ◌-◌}
use lib.ListN.{length}
use native.Mathlib.Omega.{arith}
use Rattle.name_entries.proofs.Copying.{entry_copied}
use Rattle.name_entries.proofs.entry.of_name.Goals as goal

pub returns : goal.returns
returns c = entry_copied c.args.name.now _ (length c.args.name.now + 1 - 1) c.copy_from_slice.ensures.after c.requires (omega arith)
