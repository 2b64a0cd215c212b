-- The invariant: the nodes passed are well formed.
use Rattle.std.proofs.Common.{ℕ, ◌<◌}
use Rattle.arena.specs.Node.{node_at}
use Rattle.arena.specs.Nodes.{WellFormed}
use Rattle.arena.proofs.audit.audit_nodes.Given as goal

abbrev pub invariant-loop-id : goal.invariant-loop-id
invariant-loop-id l = (k : ℕ) → k < l.id → WellFormed k (node_at l.nodes k)
