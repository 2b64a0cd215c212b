-- The invariant: as many of the slots passed are in use.
use Rattle.std.proofs.Common.{◌≡◌, ◌≤◌}
use Rattle.table_audit.specs.Audit.{used_slots}
use Rattle.table_audit.proofs.used_slots.Given as goal

abbrev pub invariant-loop-slot : goal.invariant-loop-slot
invariant-loop-slot l = record {
  counted : l.used ≡ used_slots l.slots l.slot-index;
  few : l.used ≤ l.slot-index;
}
