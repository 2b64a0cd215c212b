-- A node's words.
use Prim.Native.Nat.{ℕ}
use mathlib.Core.Path.{◌≡◌, refl, sym, ap, ◌∙◌}
use mathlib.Core.List.{List, ◌++◌, append-nil}
use native.Mathlib.Omega.{arith}
use lib.ListN.{length, drop}
use lib.Seq.{drop-length}
use Rattle.arena.specs.declared.DagArena.{DagArena}
use Rattle.arena.specs.declared.node.DagNode.{DagNode}
use Rattle.arena.specs.Layout.{node_words}
use Rattle.arena.specs.Node.{words_of, put}
use Rattle.std.proofs.Common.{Ok, Err}
use Rattle.builder.specs.Reads.{NodeRead, ReadsNode}
use Rattle.curvalique.specs.Reading.{ReadsWords}

-- the words of a node, where there is place for one
pub only_node : (words : List ℕ) (n : DagNode) → length words ≡ node_words → put words 0 n ≡ words_of n
unfolding put
only_node words n e = ap (λ (rest : List ℕ). words_of n ++ rest) (ap (λ (k : ℕ). drop k words) (sym e) ∙ drop-length words) ∙ append-nil (words_of n)

not_node : (number : ℕ) (node : DagNode) → ◌≡◌ {A = NodeRead} (Err number) (Ok node) → ⊥
not_node number node e = let z : ◌≡◌ {A = ℕ} 0 1 = cc in omega arith

same_number : (a b : ℕ) → ◌≡◌ {A = NodeRead} (Err a) (Err b) → a ≡ b
same_number a b e = cc

same_node : (a b : DagNode) → ◌≡◌ {A = NodeRead} (Ok a) (Ok b) → a ≡ b
same_node a b e = cc

module _ (words slots : List ℕ) (arena : DagArena) (id : ℕ) (read : NodeRead) (h : ReadsNode words slots arena id read) where
  pub words_answered : (before after : List ℕ) (node : DagNode) → read ≡ Ok node → after ≡ words_of node → ReadsWords words slots arena id 0 before after
  words_answered before after node e w = record {
    unsound = λ n. absurd (not_node _ _ (sym (h.unsound n) ∙ e));
    unknown = λ s g. absurd (not_node _ _ (sym (h.unknown s g) ∙ e));
    found = λ s g. (refl, w ∙ ap words_of (same_node _ _ (sym e ∙ h.found s g)));
    plain = h.plain;
  }

  pub words_refused : (number : ℕ) (out : List ℕ) → read ≡ Err number → ReadsWords words slots arena id number out out
  words_refused number out e = record {
    unsound = λ n. (same_number _ _ (sym e ∙ h.unsound n), refl);
    unknown = λ s g. (same_number _ _ (sym e ∙ h.unknown s g), refl);
    found = λ s g. absurd (not_node _ _ (sym e ∙ h.found s g));
    plain = h.plain;
  }
