-- The invariant: the nodes passed meet their own slots.
use Rattle.std.proofs.Common.{ℕ, ◌<◌}
use Rattle.table_audit.specs.Audit.{MeetsOwn}
use Rattle.table_audit.proofs.all_meet_own.Given as goal

abbrev pub invariant-loop-id : goal.invariant-loop-id
invariant-loop-id l = (k : ℕ) → k < l.id → MeetsOwn l.nodes l.slots l.arena.size k
