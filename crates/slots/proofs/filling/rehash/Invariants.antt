-- The invariant: the table has the ids passed, and slots past it stay.
use Rattle.std.proofs.Common.{◌≡◌, length, drop}
use Rattle.slots.specs.Table.{Table, hash_at}
use Rattle.slots.proofs.filling.rehash.Given as goal

abbrev pub invariant-loop-id : goal.invariant-loop-id
invariant-loop-id l = record {
  table : Table (hash_at l.nodes) l.id l.slots l.size;
  past : drop l.size l.slots ≡ drop l.size l.initial.slots;
  long : length l.slots ≡ length l.initial.slots;
}
