-- Whether a slot holds a key's node.
use Rattle.std.specs.Prelude.{ℕ, zero, suc, Bool, false, ◌&&◌, List, ltb}
use Rattle.arena.specs.declared.node.DagNode.{DagNode}
use Rattle.arena.specs.Node.{node_at, one}

-- a slot holds an id below `known` whose node is one with the key
unfoldable pub holds : List ℕ → ℕ → DagNode → ℕ → Bool
holds words known key zero = false
holds words known key (suc id) = ltb id known && one (node_at words id) key
