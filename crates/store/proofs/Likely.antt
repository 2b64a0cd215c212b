-- A node found at an id that was looked at first.
use Prim.Native.Nat.{ℕ, ◌<◌}
use mathlib.Core.Path.{◌≡◌, refl}
use mathlib.Core.Bool.{true}
use mathlib.Core.List.{List}
use lib.ListN.{length}
use Rattle.arena.specs.declared.node.DagNode.{DagNode}
use Rattle.arena.specs.Layout.{most_children, arena_of}
use Rattle.arena.specs.Node.{node_at, one}
use Rattle.arena.specs.Nodes.{WellFormed}
use Rattle.arena.proofs.Finding.{find_one}
use Rattle.std.proofs.Common.{Ok}
use Rattle.dedup.specs.Intern.{answered}
use Rattle.dedup.proofs.Answers.{old_answer}
use Rattle.store.specs.declared.NodeAnswer.TheVariants.{Id}
use Rattle.store.specs.Sound.{Sound}
use Rattle.store.specs.View.{plain_node}
use Rattle.store.specs.Interning.{Interns, built_of}
use Rattle.store.proofs.Refining.{seen}

pub likely_interns : (w slots : List ℕ) (count size : ℕ) (key : DagNode) → length key.children ≡ most_children → WellFormed count key → Sound w slots (arena_of count size)
    → (id : ℕ) → id < count → one (node_at w id) key ≡ true → Interns w slots (arena_of count size) (plain_node key) w slots (built_of (Id id) count size)
likely_interns w slots count size key four f h id l o =
    seen w slots (arena_of count size) key four f h (answered (Ok id) count size) w slots
    (old_answer w slots (arena_of count size) key id (find_one w key count h.nodes id l o) h.nodes h.table) refl refl (Ok id) refl
