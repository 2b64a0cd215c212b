-- A node read back as its words.
use Rattle.std.specs.Prelude.{ℕ, ◌≤◌, ◌<◌, ◌≡◌, List}
use Rattle.arena.specs.declared.DagArena.{DagArena}
use Rattle.arena.specs.Node.{node_at, words_of}
use Rattle.definitions.specs.Refusals.{not_sound, bad_operand}
use Rattle.definitions.specs.Node.{at}
use Rattle.store.specs.Sound.{Sound}
use Rattle.store.specs.View.{plain_node, nodes_in}

-- 20, then 4, then the node: plainly it is the plain machine's. A refusal leaves the words as they were.
pub record ReadsWords (words slots : List ℕ) (arena : DagArena) (id r : ℕ) (before after : List ℕ) : Type 0 where
  pub unsound : (Sound words slots arena → ⊥) → (r ≡ not_sound) × (after ≡ before)
  pub unknown : Sound words slots arena → arena.count ≤ id → (r ≡ bad_operand) × (after ≡ before)
  pub found : Sound words slots arena → id < arena.count → (r ≡ 0) × (after ≡ words_of (node_at words id))
  pub plain : Sound words slots arena → id < arena.count → plain_node (node_at words id) ≡ at (nodes_in words arena.count) id
