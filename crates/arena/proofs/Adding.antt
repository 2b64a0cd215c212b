-- The nodes after a new one.
use Prim.Native.Nat.{ℕ, suc, ◌+◌, ◌*◌, ◌≤◌, ◌<◌}
use mathlib.Core.Path.{◌≡◌, sym, ◌∙◌}
use mathlib.Core.Bool.{true, false≢true}
use mathlib.Core.List.{List}
use mathlib.Core.Logic.{◌⊎◌, inl, inr}
use mathlib.Core.Option.{none}
use lib.ListN.{length}
use native.Mathlib.Omega.{arith}
use native.Mathlib.Nat.{eq-or-lt_of_le, le_of_suc-le-suc}
use Rattle.arena.specs.declared.node.DagNode.{DagNode}
use Rattle.arena.specs.Layout.{node_words, most_children, most_nodes}
use Rattle.arena.specs.Node.{node_at, one, put, find}
use Rattle.arena.specs.Nodes.{WellFormed, Nodes}
use Rattle.arena.proofs.OneNode.{one_sym}
use Rattle.arena.proofs.Finding.{none_below}
use Rattle.arena.proofs.Putting.{put_length, put_old, put_new}

module _ (w : List ℕ) (count : ℕ) (n : DagNode) (many : count < most_nodes) (fits : count * node_words + node_words ≤ length w) (len : length n.children ≡ most_children) (s : Nodes w count) (new : WellFormed count n) (absent : find w count n ≡ none) where
  abbrev w' : List ℕ
  w' = put w count n

  old : (i : ℕ) → i < count → node_at w' i ≡ node_at w i
  old = put_old w count n fits len

  each : (i : ℕ) → (i ≡ count) ⊎ (i < count) → WellFormed i (node_at w' i)
  each i (inl e) = rw (e, put_new w count n fits len) new
  each i (inr l) = rw (old i l) (s.formed.each i l)

  fresh : (i : ℕ) → i < count → one (node_at w i) n ≡ true → ⊥
  fresh i l o = false≢true (sym (none_below w n count absent i l) ∙ o)

  apart : (i j : ℕ) → (i ≡ count) ⊎ (i < count) → (j ≡ count) ⊎ (j < count) → one (node_at w' i) (node_at w' j) ≡ true → i ≡ j
  apart i j (inl a) (inl b) o = a ∙ sym b
  apart i j (inl a) (inr b) o = absurd (fresh j b (one_sym _ _ (rw (a, put_new w count n fits len, old j b) at o)))
  apart i j (inr a) (inl b) o = absurd (fresh i a (rw (b, put_new w count n fits len, old i a) at o))
  apart i j (inr a) (inr b) o = s.apart i j a b (rw (old i a, old j b) at o)

  last : (i : ℕ) → i < count + 1 → (i ≡ count) ⊎ (i < count)
  last i l = eq-or-lt_of_le (le_of_suc-le-suc (let m : suc i ≤ suc count = omega arith in m))

  pub nodes_add : Nodes w' (count + 1)
  nodes_add = record {
    formed = record {
      many = omega arith;
      fits = rw (put_length w count n fits len) (omega arith);
      each = λ i l. each i (last i l);
    };
    apart = λ i j l m. apart i j (last i l) (last j m);
  }
