-- The nodes of every sound store.
use Rattle.std.specs.Prelude.{ℕ, ◌*◌, ◌≤◌, ◌<◌, ◌≡◌, true, List, length}
use Rattle.arena.specs.declared.node.DagNode.{DagNode}
use Rattle.arena.specs.Layout.{node_words, most_nodes}
use Rattle.kinds.specs.Kind.{listed}
use Rattle.child_places.specs.Places.{LowerChildren}
use Rattle.arena.specs.Node.{node_at, one, flags_end, node_hash, coefficient}

-- kinds, payloads, child counts and unused places are as listed, children have lower ids than their node, the hash and the coefficient
-- are those of the node, and flags are 0 to 7
pub record WellFormed (id : ℕ) (n : DagNode) : Type 0 where
  pub kinds : listed n.kind n.payload n.arity ≡ true
  pub places : LowerChildren id n.arity n.children
  pub marks : n.flags < flags_end
  pub hashed : n.hash ≡ node_hash n
  pub weighed : n.coefficient ≡ coefficient n.kind n.payload

-- every node, and no more of them than 65,536 and the lent words hold
pub record AllWellFormed (words : List ℕ) (count : ℕ) : Type 0 where
  pub many : count ≤ most_nodes
  pub fits : count * node_words ≤ length words
  pub each : (i : ℕ) → i < count → WellFormed i (node_at words i)

-- and no two nodes are one
pub record Nodes (words : List ℕ) (count : ℕ) : Type 0 where
  pub formed : AllWellFormed words count
  pub apart : (i j : ℕ) → i < count → j < count → one (node_at words i) (node_at words j) ≡ true → i ≡ j
