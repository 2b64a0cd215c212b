-- A node read back, by its three answers.
use Prim.Native.Nat.{ℕ, ◌+◌, ◌*◌, ◌≤◌, ◌<◌}
use mathlib.Core.Path.{◌≡◌, sym, ap}
use mathlib.Core.List.{List}
use lib.ListN.{length}
use native.Mathlib.Omega.{arith}
use Rattle.arena.specs.declared.DagArena.{DagArena}
use Rattle.arena.specs.declared.node.DagNode.{DagNode}
use Rattle.arena.specs.Layout.{node_words}
use Rattle.arena.specs.Node.{node_at}
use Rattle.definitions.specs.Refusals.{not_sound, bad_operand}
use Rattle.store.specs.Sound.{Sound}
use Rattle.store.proofs.Viewing.{at_plain}
use Rattle.std.proofs.Common.{Ok, Err}
use Rattle.builder.specs.Reads.{NodeRead, ReadsNode}

module _ (w slots : List ℕ) (s : DagArena) (id : ℕ) where
  pub reads_unsound : (r : NodeRead) → r ≡ Err not_sound → (Sound w slots s → ⊥) → ReadsNode w slots s id r
  reads_unsound r e n = record {
    unsound = λ _. e;
    unknown = λ h. absurd (n h);
    found = λ h. absurd (n h);
    plain = λ h. absurd (n h);
  }

  module _ (h : Sound w slots s) where
    pub reads_unknown : (r : NodeRead) → r ≡ Err bad_operand → s.count ≤ id → ReadsNode w slots s id r
    reads_unknown r e l = record {
      unsound = λ n. absurd (n h);
      unknown = λ _ _. e;
      found = λ _ m. absurd (omega arith);
      plain = λ _ m. sym (at_plain w s.count id m);
    }

    pub reads_fits : id < s.count → id * node_words + node_words ≤ length w
    reads_fits l = let f = h.nodes.formed.fits in omega arith

    pub reads_found : id < s.count → (n : DagNode) → n ≡ node_at w id → ReadsNode w slots s id (Ok n)
    reads_found l n e = record {
      unsound = λ k. absurd (k h);
      unknown = λ _ m. absurd (omega arith);
      found = λ _ _. ap Ok e;
      plain = λ _ m. sym (at_plain w s.count id m);
    }
