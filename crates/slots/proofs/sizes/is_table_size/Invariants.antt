-- `slots::sizes::is_table_size` meets its contract. The invariant: the rest is a table size just if the size is.
use Prim.Native.Nat.{◌%◌}
use mathlib.Core.Path.{◌≡◌}
use native.Mathlib.Omega.{arith}
use Rattle.definitions.proofs.Deciding.{says_no, says_map, says_eq}
use Rattle.slots.specs.Table.{TableSize}
use Rattle.slots.proofs.Doubling.{not_odd, halved, of_half, first_size, last_half}
use Rattle.slots.proofs.sizes.is_table_size.Given as goal

abbrev pub invariant-loop-rest : goal.invariant-loop-rest
invariant-loop-rest l = (TableSize l.size → TableSize l.rest) × (TableSize l.rest → TableSize l.size)

abbrev pub decreases-loop-rest : goal.decreases-loop-rest
decreases-loop-rest l = l.rest
