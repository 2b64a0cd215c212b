-- The invariant: the slots passed hold lower ids, of other nodes.
use Rattle.std.proofs.Common.{◌≡◌}
use Rattle.slots.specs.Table.{hash_at}
use Rattle.table_audit.specs.Audit.{LowerBefore}
use Rattle.table_audit.proofs.meets_own.Given as goal

abbrev pub invariant-loop-far : goal.invariant-loop-far
invariant-loop-far l = record {
  before : LowerBefore l.nodes l.slots l.size l.id l.far;
  hashed : l.hash ≡ hash_at l.nodes l.id;
}
