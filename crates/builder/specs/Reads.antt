-- What reading a node back says.
use Rattle.std.specs.Prelude.{ℕ, ◌≤◌, ◌<◌, ◌≡◌, List, Result, Ok, Err}
use Rattle.arena.specs.declared.DagArena.{DagArena}
use Rattle.arena.specs.declared.node.DagNode.{DagNode}
use Rattle.arena.specs.Node.{node_at}
use Rattle.definitions.specs.Node.{at}
use Rattle.definitions.specs.Refusals.{not_sound, bad_operand}
use Rattle.store.specs.Sound.{Sound}
use Rattle.store.specs.View.{plain_node, nodes_in}

-- a node, or the number of a refusal
abbrev pub NodeRead : Type 0
NodeRead = Result DagNode ℕ

-- 20, then 4, then the node: plainly it is the plain machine's
pub record ReadsNode (words slots : List ℕ) (arena : DagArena) (id : ℕ) (r : NodeRead) : Type 0 where
  pub unsound : (Sound words slots arena → ⊥) → r ≡ Err not_sound
  pub unknown : Sound words slots arena → arena.count ≤ id → r ≡ Err bad_operand
  pub found : Sound words slots arena → id < arena.count → r ≡ Ok (node_at words id)
  pub plain : Sound words slots arena → id < arena.count → plain_node (node_at words id) ≡ at (nodes_in words arena.count) id
