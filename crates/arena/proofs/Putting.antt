-- A node's words in the list.
use Prim.Native.Nat.{ℕ, ◌+◌, ◌*◌, ◌≤◌, ◌<◌}
use mathlib.Core.Path.{◌≡◌, refl, sym, ap, ◌∙◌}
use mathlib.Core.List.{List, [], ◌∷◌, ◌++◌, append_assoc}
use lib.ListN.{get_or, length, set, take, drop, length-append, length-drop, get_or-append}
use lib.Seq.{sets, sets-eq, paste, get_or-append-add, get_or-take, length-take-le, take_all, take_at, drop_at, drop-drop}
use native.Mathlib.Omega.{arith}
use native.Mathlib.Numerals.{towards_suc}
use Rattle.arena.specs.declared.node.DagNode.{DagNode}
use Rattle.arena.specs.Layout.{node_words, most_children}
use Rattle.arena.specs.Node.{words_from, node_at, words_of, put}
use Rattle.arena.proofs.Words.{words_are, node_same}

-- the words of a node before its children
abbrev pub head : DagNode → List ℕ
head n = n.kind ∷ n.payload ∷ n.hash ∷ n.coefficient ∷ n.flags ∷ n.arity ∷ []

six_sets : (l : List ℕ) (at a b c d e f : ℕ) → set (set (set (set (set (set l (at + 0) a) (at + 1) b) (at + 2) c) (at + 3) d) (at + 4) e) (at + 5) f ≡ sets l at (a ∷ b ∷ c ∷ d ∷ e ∷ f ∷ [])
six_sets l at a b c d e f = let z : at + 0 ≡ at = omega arith in rw z (simp (towards_suc))

-- two runs of words, one after another, are one run
two_runs : (w : List ℕ) (at : ℕ) (a b : List ℕ) → at + (length a + length b) ≤ length w → paste (sets w at a) (at + length a) b (length b) ≡ take at w ++ (a ++ b) ++ drop (at + (length a + length b)) w
two_runs w at a b fits =
    let long : length (take at w) ≡ at = length-take-le at w (omega arith) in
    let d : sets w at a ≡ take at w ++ a ++ drop (at + length a) w = sets-eq a w at (omega arith) in
    let front : length (take at w ++ a) ≡ at + length a = length-append (take at w) a ∙ ap (λ (k : ℕ). k + length a) long in
    let t : take (at + length a) (sets w at a) ≡ take at w ++ a = ap (take (at + length a)) d ∙ take_at (take at w ++ a) (drop (at + length a) w) (at + length a) front in
    let r : drop (at + length a) (sets w at a) ≡ drop (at + length a) w = ap (drop (at + length a)) d ∙ drop_at (take at w ++ a) (drop (at + length a) w) (at + length a) front in
    let q : drop (at + length a + length b) (sets w at a) ≡ drop (at + (length a + length b)) w =
    sym (drop-drop (length b) (at + length a) (sets w at a)) ∙ ap (drop (length b)) r ∙ drop-drop (length b) (at + length a) w ∙ ap (λ (k : ℕ). drop k w) (let e : at + length a + length b ≡ at + (length a + length b) = omega arith in e) in
    rw (t, q, take_all (length b) b (omega arith)) (ap (λ (l : List ℕ). l ++ drop (at + (length a + length b)) w) (append_assoc (take at w) a b))

module _ (w : List ℕ) (id : ℕ) (n : DagNode) (fits : id * node_words + node_words ≤ length w) (len : length n.children ≡ most_children) where
  words_long : length (words_of n) ≡ node_words
  unfolding words_of
  words_long = let l = len in omega arith

  -- what the stores leave
  pub stored : paste (set (set (set (set (set (set w (id * node_words + 0) n.kind) (id * node_words + 1) n.payload) (id * node_words + 2) n.hash) (id * node_words + 3) n.coefficient) (id * node_words + 4) n.flags) (id * node_words + 5) n.arity) (id * node_words + 6) n.children most_children ≡ put w id n
  unfolding put words_of
  stored =
      rw (six_sets w (id * node_words) n.kind n.payload n.hash n.coefficient n.flags n.arity)
      (ap (λ (k : ℕ). paste (sets w (id * node_words) (head n)) (id * node_words + 6) n.children k) (sym len) ∙ two_runs w (id * node_words) (head n) n.children (let l = len in omega arith) ∙ ap (λ (k : ℕ). take (id * node_words) w ++ (head n ++ n.children) ++ drop (id * node_words + k) w) (let l = len in let e : 6 + length n.children ≡ node_words = omega arith in e))

  before : length (take (id * node_words) w) ≡ id * node_words
  before = length-take-le (id * node_words) w (omega arith)

  pub put_length : length (put w id n) ≡ length w
  unfolding put
  put_length = simp (length-append, length-drop) (let b = before in let l = words_long in omega arith)

  -- a word of the node
  pub put_here : (j : ℕ) → j < node_words → get_or (put w id n) (id * node_words + j) 0 ≡ get_or (words_of n) j 0
  unfolding put
  put_here j l =
      ap (λ (x : ℕ). get_or (put w id n) (x + j) 0) (sym before)
      ∙ ap (λ (x : List ℕ). get_or x (length (take (id * node_words) w) + j) 0) (append_assoc (take (id * node_words) w) (words_of n) (drop (id * node_words + node_words) w))
      ∙ get_or-append-add (take (id * node_words) w) (words_of n ++ drop (id * node_words + node_words) w) j 0
      ∙ get_or-append (words_of n) (drop (id * node_words + node_words) w) 0 j (rw words_long l)

  -- a word before it
  pub put_below : (x : ℕ) → x < id * node_words → get_or (put w id n) x 0 ≡ get_or w x 0
  unfolding put
  put_below x l =
      ap (λ (y : List ℕ). get_or y x 0) (append_assoc (take (id * node_words) w) (words_of n) (drop (id * node_words + node_words) w))
      ∙ get_or-append (take (id * node_words) w) (words_of n ++ drop (id * node_words + node_words) w) 0 x (rw before l)
      ∙ get_or-take (id * node_words) w x 0 l

  -- the words after it
  pub put_past : drop (id * node_words + node_words) (put w id n) ≡ drop (id * node_words + node_words) w
  unfolding put
  put_past = drop_at (take (id * node_words) w ++ words_of n) (drop (id * node_words + node_words) w) (id * node_words + node_words) (length-append (take (id * node_words) w) (words_of n) ∙ (let b = before in let l = words_long in omega arith))

  -- the nodes before it
  pub put_old : (i : ℕ) → i < id → node_at (put w id n) i ≡ node_at w i
  put_old i l = node_same w (put w id n) i (λ j m. put_below (i * node_words + j) (omega arith))

  -- the node itself
  pub put_new : node_at (put w id n) id ≡ n
  unfolding node_at words_of
  put_new = rw (put_here 0 (omega arith), put_here 1 (omega arith), put_here 2 (omega arith), put_here 3 (omega arith), put_here 4 (omega arith), put_here 5 (omega arith), ← children) refl
    where
      children : n.children ≡ words_from most_children (put w id n) (id * node_words + 6)
      children = words_are most_children (put w id n) (id * node_words + 6) n.children len (λ k l.
          sym (get_or-append-add (head n) n.children k 0)
          ∙ sym (put_here (6 + k) (omega arith))
          ∙ ap (λ (x : ℕ). get_or (put w id n) x 0) (let e : id * node_words + (6 + k) ≡ id * node_words + 6 + k = omega arith in e))
