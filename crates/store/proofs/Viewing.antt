-- The words and the plain list of nodes go together.
use Prim.Native.Nat.{ℕ, zero, suc, ◌+◌, ◌%◌, ◌≤◌, ◌<◌}
use mathlib.Core.Path.{◌≡◌, refl, sym, ap, ◌∙◌}
use mathlib.Core.Bool.{Bool, true, false, cond, ◌&&◌}
use mathlib.Core.List.{List, [], ◌∷◌, ◌++◌}
use mathlib.Core.Option.{Option, none, some}
use mathlib.Core.Logic.{◌⊎◌, inl, inr}
use lib.ListN.{length, get_or, take, length-append, get_or-append}
use lib.Seq.{get_or-take, length-take-le, get_or_at, ext_get_or}
use lib.Dec.{eqb}
use native.Mathlib.Omega.{arith}
use native.Mathlib.Decide.{dec_lt}
use native.Mathlib.Nat.{eq-or-lt_of_le, le_of_suc-le-suc}
use borrow.Author.Tests.{eq-eqb, eqb-true}
use Rattle.arena.specs.declared.node.DagNode.{DagNode}
use Rattle.arena.specs.Layout.{most_children}
use Rattle.arena.specs.Node as A
use Rattle.arena.specs.Node.{node_at, one}
use Rattle.arena.specs.Nodes.{WellFormed, Nodes}
use Rattle.definitions.proofs.Deciding.{both, same_test, is_false}
use Rattle.kinds.proofs.Listing.{listed_few}
use Rattle.arena.proofs.Words.{children_length}
use Rattle.arena.proofs.OneNode.{children_eq, children_refl, one_sym, one_trans}
use Rattle.arena.proofs.Finding.{find_none}
use Rattle.definitions.specs.Node as N
use Rattle.definitions.specs.Intern as I
use Rattle.store.specs.View.{plain_node, nodes_in}

pub plain_more : (w : List ℕ) (n : ℕ) → nodes_in w (suc n) ≡ nodes_in w n ++ (plain_node (node_at w n) ∷ [])
unfolding nodes_in
plain_more w n = refl

pub plain_length : (w : List ℕ) (n : ℕ) → length (nodes_in w n) ≡ n
unfolding nodes_in
plain_length w zero = refl
plain_length w (suc n) = let e = length-append (nodes_in w n) (plain_node (node_at w n) ∷ []) in let r = plain_length w n in omega arith

-- the node of an id
pub at_plain : (w : List ℕ) (n i : ℕ) → i < n → N.at (nodes_in w n) i ≡ plain_node (node_at w i)
at_plain w zero i l = absurd (omega arith)
at_plain w (suc n) i l = ap (λ (ns : List N.Node). N.at ns i) (plain_more w n) ∙ go (at_plain w n i) (eq-or-lt_of_le (le_of_suc-le-suc l))
  where
    go : (i < n → N.at (nodes_in w n) i ≡ plain_node (node_at w i)) → (i ≡ n) ⊎ (i < n) → N.at (nodes_in w n ++ (plain_node (node_at w n) ∷ [])) i ≡ plain_node (node_at w i)
    go rec (inl e) = get_or_at (nodes_in w n) (plain_node (node_at w n)) [] N.blank i (plain_length w n ∙ sym e) ∙ ap (λ (k : ℕ). plain_node (node_at w k)) (sym e)
    go rec (inr m) = get_or-append (nodes_in w n) (plain_node (node_at w n) ∷ []) N.blank i (rw (plain_length w n) m) ∙ rec m

-- words that agree on the nodes give one list
pub plain_same : (w w' : List ℕ) (n : ℕ) → ((i : ℕ) → i < n → node_at w' i ≡ node_at w i) → nodes_in w' n ≡ nodes_in w n
unfolding nodes_in
plain_same w w' zero h = refl
plain_same w w' (suc n) h = rw (plain_same w w' n (λ i l. h i (omega arith)), h n (omega arith)) refl

-- ---- two nodes are one, in memory and plainly

-- what the tests need of a node
pub record Neat (n : DagNode) : Type 0 where
  pub four : length n.children ≡ most_children
  pub few : n.arity ≤ most_children
  pub unused : (j : ℕ) → n.arity ≤ j → get_or n.children j 0 ≡ 0

pub neat_of : (id : ℕ) (n : DagNode) → length n.children ≡ most_children → WellFormed id n → Neat n
neat_of id n four f = record { four = four; few = listed_few n.kind n.payload n.arity f.kinds; unused = f.places.unused }

pub neat_at : (w : List ℕ) (count i : ℕ) → Nodes w count → i < count → Neat (node_at w i)
neat_at w count i s l = neat_of i (node_at w i) (children_length w i) (s.formed.each i l)

four_tests : (a b c d e : Bool) → d ≡ e → a && (b && (c && d)) ≡ a && (b && (c && e))
four_tests a b c d e h = rw h refl

module _ (m k : DagNode) (nm : Neat m) (nk : Neat k) where
  -- the children decide the child count and the places
  pub taken_all : take m.arity m.children ≡ take k.arity k.children → (m.arity ≡ k.arity) × (m.children ≡ k.children)
  taken_all same = (long, ext_get_or 0 m.children k.children (nm.four ∙ sym nk.four) (λ j l. place j))
    where
      lm : length (take m.arity m.children) ≡ m.arity
      lm = length-take-le _ _ (let f = nm.four in let g = nm.few in omega arith)

      lk : length (take k.arity k.children) ≡ k.arity
      lk = length-take-le _ _ (let f = nk.four in let g = nk.few in omega arith)

      long : m.arity ≡ k.arity
      long = sym lm ∙ ap length same ∙ lk

      place : (j : ℕ) → get_or m.children j 0 ≡ get_or k.children j 0
      place j = go (dec_lt j m.arity)
        where
          go : Dec (j < m.arity) → get_or m.children j 0 ≡ get_or k.children j 0
          go (yes l) = sym (get_or-take m.arity m.children j 0 l) ∙ ap (λ (x : List ℕ). get_or x j 0) same ∙ get_or-take k.arity k.children j 0 (omega (arith, long))
          go (no l) = nm.unused j (omega arith) ∙ sym (nk.unused j (omega (arith, long)))

  taken_to : N.same_children (take m.arity m.children) (take k.arity k.children) ≡ true → eqb m.arity k.arity && N.same_children m.children k.children ≡ true
  taken_to h = let t = taken_all (children_eq _ _ h) in rw (eq-eqb _ _ t.0, t.1) (children_refl k.children)

  taken_from : eqb m.arity k.arity && N.same_children m.children k.children ≡ true → N.same_children (take m.arity m.children) (take k.arity k.children) ≡ true
  taken_from h =
      let b = both (eqb m.arity k.arity) (N.same_children m.children k.children) h in
      let e = eqb-true m.arity k.arity b.0 in
      let f = children_eq m.children k.children b.1 in
      rw (e, f) (children_refl (take k.arity k.children))

  -- the children agree exactly if the child counts and places do
  pub children_same : N.same_children (take m.arity m.children) (take k.arity k.children) ≡ (eqb m.arity k.arity && N.same_children m.children k.children)
  children_same = same_test _ _ taken_to taken_from

  pub same_one : N.same (plain_node m) (plain_node k) ≡ one m k
  unfolding plain_node one
  same_one = four_tests (eqb m.kind k.kind) (eqb m.payload k.payload) (eqb (m.flags % 4) (k.flags % 4)) _ _ children_same

-- ---- finding

-- a search through two lists, one after another
abbrev or_else : Option ℕ → Option ℕ → Option ℕ
or_else (some i) o = some i
or_else none o = o

find_append : (n : N.Node) (a b : List N.Node) (i : ℕ) → I.find n (a ++ b) i ≡ or_else (I.find n a i) (I.find n b (i + length a))
unfolding I.find
find_append n [] b i = ap (I.find n b) (let e : i ≡ i + 0 = omega arith in e)
find_append n (m ∷ a) b i = go (N.same m n) (find_append n a b (suc i))
  where
    go : (t : Bool) → I.find n (a ++ b) (suc i) ≡ or_else (I.find n a (suc i)) (I.find n b (suc i + length a)) → elim t [ true ↦ some i | false ↦ I.find n (a ++ b) (suc i) ] ≡ or_else (elim t [ true ↦ some i | false ↦ I.find n a (suc i) ]) (I.find n b (i + suc (length a)))
    go true rec = refl
    go false rec = rec ∙ ap (λ (k : ℕ). or_else (I.find n a (suc i)) (I.find n b k)) (let e : suc i + length a ≡ i + suc (length a) = omega arith in e)

none_else : (o : Option ℕ) → or_else o none ≡ o
none_else (some i) = refl
none_else none = refl

module _ (w : List ℕ) (count : ℕ) (k : DagNode) (s : Nodes w count) (nk : Neat k) where
  last : (n : ℕ) → I.find (plain_node k) (nodes_in w (suc n)) 0 ≡ or_else (I.find (plain_node k) (nodes_in w n) 0) (elim (N.same (plain_node (node_at w n)) (plain_node k)) [ true ↦ some n | false ↦ none ])
  unfolding I.find
  last n =
      ap (λ (ns : List N.Node). I.find (plain_node k) ns 0) (plain_more w n)
      ∙ find_append (plain_node k) (nodes_in w n) (plain_node (node_at w n) ∷ []) 0
      ∙ ap (λ (j : ℕ). or_else (I.find (plain_node k) (nodes_in w n) 0) (elim (N.same (plain_node (node_at w n)) (plain_node k)) [ true ↦ some j | false ↦ none ])) (let e = plain_length w n in let z : 0 + length (nodes_in w n) ≡ n = omega arith in z)

  -- comparing with every node from the first on finds what comparing from the last on finds, since no two nodes are one
  find_below : (n : ℕ) → n ≤ count → I.find (plain_node k) (nodes_in w n) 0 ≡ A.find w n k
  unfolding A.find I.find nodes_in
  find_below zero l = refl
  find_below (suc n) l = last n ∙ (rw (same_one (node_at w n) k (neat_at w count n s (omega arith)) nk) (go (one (node_at w n) k) refl (find_below n (omega arith))))
    where
      alone : one (node_at w n) k ≡ true → A.find w n k ≡ none
      alone t = find_none w k n (λ i m. is_false _ (λ o. let e = s.apart i n (omega arith) (omega arith) (one_trans _ _ _ o (one_sym _ _ t)) in omega arith))

      go : (b : Bool) → one (node_at w n) k ≡ b → I.find (plain_node k) (nodes_in w n) 0 ≡ A.find w n k → or_else (I.find (plain_node k) (nodes_in w n) 0) (elim b [ true ↦ some n | false ↦ none ]) ≡ cond b (some n) (A.find w n k)
      go true t rec = rw (rec, alone t) refl
      go false t rec = none_else _ ∙ rec

  pub find_is : I.find (plain_node k) (nodes_in w count) 0 ≡ A.find w count k
  find_is = find_below count (omega arith)
