-- A mark in memory is the plain machine's.
use Prim.Native.Nat.{ℕ, ◌+◌, ◌*◌, ◌%◌, ◌≤◌, ◌<◌}
use mathlib.Core.Path.{◌≡◌, refl, sym, ap, ◌∙◌, subst}
use mathlib.Core.List.{List}
use lib.ListN.{length, set, length-set}
use lib.Seq.{get_or-set_same, get_or-set_other, ext_get_or, drop-set-lt}
use native.Mathlib.Omega.{arith}
use native.Mathlib.Decide.{ℕ_discrete}
use borrow.Author.Tests.{le-leb}
use Rattle.arena.specs.declared.node.DagNode.{DagNode}
use Rattle.arena.specs.declared.DagArena.{DagArena}
use Rattle.arena.specs.Layout.{node_words, flags_word}
use Rattle.arena.specs.Node.{node_at, marked, canonical}
use Rattle.arena.proofs.Marking.{with_mark, mark_length, mark_other, mark_here, mark_nodes}
use Rattle.slots.proofs.Marking.{mark_table}
use Rattle.definitions.specs.Node as N
use Rattle.definitions.specs.Walk as W
use Rattle.store.specs.Sound.{Sound}
use Rattle.store.specs.View.{plain_node, nodes_in, Kept}
use Rattle.store.specs.Lookup.{Lookup, Marked}
use Rattle.store.proofs.Viewing.{plain_length, at_plain}
use Rattle.store.proofs.Sizes.{grown_refl}

-- a node with its mark set, plainly
plain_marked : (n : DagNode) → plain_node (with_mark n) ≡ W.marked W.standard (plain_node n)
unfolding plain_node
plain_marked n = let low : (n.flags % canonical + canonical) % canonical ≡ n.flags % canonical = omega arith in rw (low, le-leb canonical (n.flags % canonical + canonical) (omega arith)) refl

module _ (w : List ℕ) (count id : ℕ) (k : Lookup w count id) where
  abbrev w' : List ℕ
  w' = marked w id

  pub fits : id * node_words + node_words ≤ length w
  fits = let f = k.nodes.formed.fits in let b = k.below in omega arith

  abbrev ns : List N.Node
  ns = nodes_in w count

  abbrev new : N.Node
  new = W.marked W.standard (N.at ns id)

  here : N.at (nodes_in w' count) id ≡ new
  here = at_plain w' count id k.below ∙ ap plain_node (mark_here w id fits) ∙ plain_marked (node_at w id) ∙ ap (W.marked W.standard) (sym (at_plain w count id k.below))

  other : (i : ℕ) → i < count → (i ≡ id → ⊥) → N.at (nodes_in w' count) i ≡ N.at ns i
  other i l n = at_plain w' count i l ∙ ap plain_node (mark_other w id fits i n) ∙ sym (at_plain w count i l)

  each : (i : ℕ) → i < count → N.at (nodes_in w' count) i ≡ N.at (set ns id new) i
  each i l = go (ℕ_discrete i id)
    where
      go : Dec (i ≡ id) → N.at (nodes_in w' count) i ≡ N.at (set ns id new) i
      go (yes e) = rw e (here ∙ sym (get_or-set_same ns id new N.blank (rw (plain_length w count) k.below)))
      go (no n) = other i l n ∙ sym (get_or-set_other ns id i new N.blank n)

  pub mark_plain : nodes_in w' count ≡ set ns id new
  mark_plain =
      ext_get_or N.blank (nodes_in w' count) (set ns id new)
      (plain_length w' count ∙ sym (length-set ns id _ ∙ plain_length w count))
      (λ i l. each i (rw (plain_length w' count) at l))

  pub mark_children : (i : ℕ) → i < count → (N.at (nodes_in w' count) i).children ≡ (N.at ns i).children
  mark_children i l = go (ℕ_discrete i id)
    where
      go : Dec (i ≡ id) → (N.at (nodes_in w' count) i).children ≡ (N.at ns i).children
      go (yes e) = rw e (ap (λ (x : N.Node). x.children) here)
      go (no n) = ap (λ (x : N.Node). x.children) (other i l n)

pub mark_kept : (w slots : List ℕ) (s : DagArena) → Sound w slots s → (id : ℕ) → id < s.count → Kept w slots s (marked w id) slots s
unfolding marked
mark_kept w slots s h id below =
    let k : Lookup w s.count id = record { below = below; nodes = h.nodes } in
    record {
      whole = record { nodes = mark_nodes w id (fits w s.count id k) s.count h.nodes; table = mark_table w id (fits w s.count id k) s.count slots s.size h.table };
      count = omega arith;
      size = omega arith;
      grown = grown_refl s.size s.count;
      long = mark_length w id (fits w s.count id k);
      wide = refl;
      words_past = drop-set-lt (s.count * node_words) w (id * node_words + flags_word) _ (omega arith);
      slots_past = refl;
      children = mark_children w s.count id k;
    }

pub marked_is : (w : List ℕ) (count id : ℕ) → Lookup w count id → (w' : List ℕ) → w' ≡ marked w id → Marked w count id w'
marked_is w count id k w' e = subst (Marked w count id) (sym e) (record {
  is = mark_plain w count id k;
  kept = λ slots s c h. mark_kept w slots s h id (subst (λ (n : ℕ). id < n) (sym c) k.below);
})
