-- What the words of a node say of the plain node.
use Prim.Native.Nat.{ℕ, ◌+◌, ◌*◌, ◌%◌, ◌≤◌, ◌<◌}
use mathlib.Core.Path.{◌≡◌, refl, sym, ap, ◌∙◌, subst}
use mathlib.Core.Bool.{true, false}
use mathlib.Core.List.{List}
use lib.ListN.{length, get_or, take}
use lib.Seq.{get_or-take, length-take-le}
use lib.Dec.{leb}
use native.Mathlib.Omega.{arith}
use borrow.Author.Tests.{lt-leb}
use Rattle.arena.specs.declared.node.DagNode.{DagNode}
use Rattle.arena.specs.declared.DagArena.{DagArena}
use Rattle.arena.specs.Layout.{node_words, most_children, kind_word, payload_word, flags_word, arity_word, children_word}
use Rattle.arena.specs.Node.{words_from, node_at, canonical}
use Rattle.arena.specs.Nodes.{WellFormed}
use Rattle.kinds.proofs.Listing.{listed_few, listed_number}
use Rattle.arena.proofs.Words.{words_length, words_at, words_are}
use Rattle.definitions.specs.Node as N
use Rattle.store.specs.Sound.{Sound}
use Rattle.store.specs.View.{plain_node, nodes_in, listed}
use Rattle.store.specs.Lookup.{Lookup}
use Rattle.store.proofs.Viewing.{at_plain}

module _ (w : List ℕ) (count i : ℕ) (k : Lookup w count i) where
  abbrev n : N.Node
  n = N.at (nodes_in w count) i

  -- the child places
  abbrev places : List ℕ
  places = words_from most_children w (i * node_words + children_word)

  abbrev arity : ℕ
  arity = get_or w (i * node_words + arity_word) 0

  formed : WellFormed i (node_at w i)
  formed = k.nodes.formed.each i k.below

  pub children_are : n.children ≡ take arity places
  unfolding plain_node node_at
  children_are = ap (λ (m : N.Node). m.children) (at_plain w count i k.below)

  pub kind_is : get_or w (i * node_words + kind_word) 0 ≡ n.kind
  unfolding plain_node node_at
  kind_is = sym (ap (λ (m : N.Node). m.kind) (at_plain w count i k.below))

  pub payload_is : get_or w (i * node_words + payload_word) 0 ≡ n.payload
  unfolding plain_node node_at
  payload_is = sym (ap (λ (m : N.Node). m.payload) (at_plain w count i k.below))

  pub mark_is : leb canonical (get_or w (i * node_words + flags_word) 0) ≡ n.canonical
  unfolding plain_node node_at
  mark_is = sym (ap (λ (m : N.Node). m.canonical) (at_plain w count i k.below))

  few_words : arity ≤ most_children
  unfolding node_at
  few_words = listed_few _ _ _ formed.kinds

  pub arity_is : arity ≡ length n.children
  arity_is = sym (ap length children_are ∙ length-take-le arity places (let e = words_length most_children w (i * node_words + children_word) in let f = few_words in omega arith))

  pub few : length n.children ≤ most_children
  few = omega (arith, arity_is, few_words)

  -- a child place that is in use
  taken : (j : ℕ) → j < length n.children → get_or n.children j 0 ≡ get_or places j 0
  taken j h = ap (λ (l : List ℕ). get_or l j 0) children_are ∙ get_or-take arity places j 0 (omega (arith, arity_is))

  pub child_is : (j : ℕ) → j < length n.children → get_or w (i * node_words + children_word + j) 0 ≡ get_or n.children j 0
  child_is j h = sym (words_at most_children w (i * node_words + children_word) j (omega (arith, few))) ∙ sym (taken j h)

  pub child_low : (j : ℕ) → j < length n.children → get_or n.children j 0 < i
  unfolding node_at
  child_low j h = subst (λ (x : ℕ). x < i) (sym (taken j h)) (formed.places.lower j (omega (arith, arity_is)))

  -- the words of the children, and the children
  pub used_are : words_from (length n.children) w (i * node_words + children_word) ≡ n.children
  used_are = sym (words_are (length n.children) w (i * node_words + children_word) n.children refl (λ j l. sym (child_is j l)))

-- ids of a sound store may be looked up, and their nodes are as listed
module _ (w slots : List ℕ) (s : DagArena) (h : Sound w slots s) (i : ℕ) (l : i < s.count) where
  pub lookup_of : Lookup w s.count i
  lookup_of = record { below = l; nodes = h.nodes }

  pub listed_at : listed (N.at (nodes_in w s.count) i).kind (N.at (nodes_in w s.count) i).payload (length (N.at (nodes_in w s.count) i).children) ≡ true
  unfolding node_at
  listed_at =
      subst (λ (a : ℕ). listed (N.at (nodes_in w s.count) i).kind (N.at (nodes_in w s.count) i).payload a ≡ true) (arity_is w s.count i lookup_of)
      (subst (λ (p : ℕ). listed (N.at (nodes_in w s.count) i).kind p (get_or w (i * node_words + arity_word) 0) ≡ true) (payload_is w s.count i lookup_of)
      (subst (λ (x : ℕ). listed x (get_or w (i * node_words + payload_word) 0) (get_or w (i * node_words + arity_word) 0) ≡ true) (kind_is w s.count i lookup_of) (h.nodes.formed.each i l).kinds))

  -- no constant of a sound store is a NaN
  pub number_at : N.nan_constant (N.at (nodes_in w s.count) i).kind (N.at (nodes_in w s.count) i).payload ≡ false
  number_at = listed_number _ _ _ listed_at

-- a node by value without a mark, plainly
pub plain_unmarked : (n : DagNode) → n.flags < canonical → plain_node n ≡ N.node n.kind n.payload n.flags (take n.arity n.children)
unfolding plain_node
plain_unmarked n h = let e : n.flags % canonical ≡ n.flags = omega arith in rw (e, lt-leb canonical n.flags h) refl
