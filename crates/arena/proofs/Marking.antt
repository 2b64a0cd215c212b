-- A mark on a node: no node becomes another.
use Prim.Native.Nat.{ℕ, ◌+◌, ◌*◌, ◌%◌, ◌≤◌}
use mathlib.Core.Path.{◌≡◌, refl, ◌∙◌}
use mathlib.Core.Bool.{true}
use mathlib.Core.List.{List}
use lib.ListN.{get_or, length, length-set}
use lib.Seq.{get_or-set_same, get_or-set_other}
use native.Mathlib.Omega.{arith}
use native.Mathlib.Decide.{ℕ_discrete}
use Rattle.arena.specs.declared.node.DagNode.{DagNode}
use Rattle.arena.specs.Layout.{node_words, most_children}
use Rattle.arena.specs.Node.{words_from, node_at, one, node_hash, marked, canonical}
use Rattle.arena.specs.Nodes.{WellFormed, Nodes}
use Rattle.arena.proofs.OneNode.{One, one_is, one_refl, one_sym, one_trans}
use Rattle.arena.proofs.Words.{words_length, words_at, words_are, node_same}

-- a node with its mark set
abbrev pub with_mark : DagNode → DagNode
with_mark n = record { kind = n.kind; payload = n.payload; hash = n.hash; coefficient = n.coefficient; flags = n.flags % canonical + canonical; arity = n.arity; children = n.children }

module _ (w : List ℕ) (id : ℕ) (fits : id * node_words + node_words ≤ length w) where
  abbrev w' : List ℕ
  w' = marked w id

  -- a word that is not the node's flags
  word : (x : ℕ) → (x ≡ id * node_words + 4 → ⊥) → get_or w' x 0 ≡ get_or w x 0
  unfolding marked
  word x n = get_or-set_other w (id * node_words + 4) x _ 0 n

  flags : get_or w' (id * node_words + 4) 0 ≡ get_or w (id * node_words + 4) 0 % canonical + canonical
  unfolding marked
  flags = get_or-set_same w (id * node_words + 4) _ 0 (omega arith)

  pub mark_length : length w' ≡ length w
  unfolding marked
  mark_length = length-set w (id * node_words + 4) _

  -- the other nodes are as they were
  pub mark_other : (i : ℕ) → (i ≡ id → ⊥) → node_at w' i ≡ node_at w i
  mark_other i n = node_same w w' i (λ j l. word (i * node_words + j) (λ e. n (omega arith)))

  children : words_from most_children w' (id * node_words + 6) ≡ words_from most_children w (id * node_words + 6)
  children = words_are most_children w (id * node_words + 6) _ (words_length most_children w' _) (λ k l. words_at most_children w' (id * node_words + 6) k l ∙ word (id * node_words + 6 + k) (λ e. omega arith))

  -- the marked node
  pub mark_here : node_at w' id ≡ with_mark (node_at w id)
  unfolding node_at
  mark_here = rw (word (id * node_words + 0) (λ e. omega arith), word (id * node_words + 1) (λ e. omega arith), word (id * node_words + 2) (λ e. omega arith), word (id * node_words + 3) (λ e. omega arith), flags, word (id * node_words + 5) (λ e. omega arith), children) refl

  unmarked : (n : DagNode) → One (with_mark n) n
  unmarked n = record { kind = refl; payload = refl; flags = omega arith; arity = refl; children = refl }

  -- each node is the one that it was
  pub mark_one : (i : ℕ) → one (node_at w' i) (node_at w i) ≡ true
  mark_one i = go (ℕ_discrete i id)
    where
      go : Dec (i ≡ id) → one (node_at w' i) (node_at w i) ≡ true
      go (yes e) = rw (e, mark_here) (one_is _ _ (unmarked (node_at w id)))
      go (no n) = rw (mark_other i n) (one_refl (node_at w i))

  pub mark_hash : (i : ℕ) → (node_at w' i).hash ≡ (node_at w i).hash
  mark_hash i = go (ℕ_discrete i id)
    where
      go : Dec (i ≡ id) → (node_at w' i).hash ≡ (node_at w i).hash
      go (yes e) = rw (e, mark_here) refl
      go (no n) = rw (mark_other i n) refl

  formed : (i : ℕ) → WellFormed i (node_at w i) → WellFormed i (node_at w' i)
  unfolding node_hash
  formed i f = go (ℕ_discrete i id)
    where
      go : Dec (i ≡ id) → WellFormed i (node_at w' i)
      go (yes e) = rw (e, mark_here) (let g : WellFormed id (node_at w id) = rw (← e) f in record { kinds = g.kinds; places = g.places; marks = omega arith; hashed = g.hashed; weighed = g.weighed })
      go (no n) = rw (mark_other i n) f

  pub mark_nodes : (count : ℕ) → Nodes w count → Nodes w' count
  mark_nodes count s = record {
    formed = record { many = s.formed.many; fits = rw mark_length s.formed.fits; each = λ i l. formed i (s.formed.each i l) };
    apart = λ i j l m o. s.apart i j l m (one_trans _ _ _ (one_sym _ _ (mark_one i)) (one_trans _ _ _ o (mark_one j)));
  }
