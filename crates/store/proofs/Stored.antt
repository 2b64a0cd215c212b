-- A sound store's words and slots are those of the plain machine's nodes.
use Prim.Native.Nat.{ℕ, zero, suc, ◌+◌, ◌*◌, ◌-◌, ◌%◌, ◌≤◌, ◌<◌}
use mathlib.Core.Path.{◌≡◌, refl, sym, ap, ap₂, ◌∙◌}
use mathlib.Core.Bool.{cond}
use mathlib.Core.List.{List, [], ◌∷◌, ◌++◌, append_assoc, append-nil}
use lib.ListN.{length, get_or, take, drop, replicate, length-append, length-replicate, length-drop, take-append-drop, get_or-replicate, get_or-append}
use lib.Seq.{ext_get_or, get_or-append-add, get_or-take, get_or-drop, length-take-le, take_at, take-add}
use lib.Dec.{leb}
use native.Mathlib.Omega.{arith}
use native.Mathlib.Decide.{dec_lt}
use borrow.Author.Tests.{le-leb, lt-leb}
use Rattle.arena.specs.declared.node.DagNode.{DagNode}
use Rattle.arena.specs.Layout.{node_words, most_children, children_word, arena_of}
use Rattle.arena.specs.Node.{node_at, words_of, new_node, node_hash, canonical, flags_end}
use Rattle.arena.specs.Nodes.{WellFormed, AllWellFormed}
use Rattle.arena.proofs.Words.{words_at, children_length}
use Rattle.hash.specs.Fnv.{node_hash_of}
use Rattle.slots.specs.Table.{inserted, hash_at}
use Rattle.slots.proofs.Inserting.{inserted_same}
use Rattle.definitions.specs.Node as N
use Rattle.definitions.specs.Limits.{most_doublings}
use Rattle.definitions.specs.Intern.{table_size_from}
use Rattle.store.specs.View.{plain_node, nodes_in}
use Rattle.store.specs.Stored.{stored_node, nodes_words, hash_in}
use Rattle.store.specs.Memory.{Memory, memory, model, nodes_of, size_for, memory_after}
use Rattle.store.proofs.Viewing.{neat_of, plain_length, at_plain}

-- ---- a well-formed node is the one that its plain node gives

flags_back : (a : ℕ) → a < flags_end → a % canonical + cond (leb canonical a) canonical 0 ≡ a
flags_back a l = go (dec_lt a canonical)
  where
    go : Dec (a < canonical) → a % canonical + cond (leb canonical a) canonical 0 ≡ a
    go (yes x) = rw (lt-leb canonical a x) (omega arith)
    go (no x) = rw (le-leb canonical a (omega arith)) (omega arith)

module _ (i : ℕ) (n : DagNode) (f : WellFormed i n) (four : length n.children ≡ most_children) where
  abbrev taken : List ℕ
  taken = take n.arity n.children

  few : n.arity ≤ most_children
  few = (neat_of i n four f).few

  long : length taken ≡ n.arity
  long = length-take-le n.arity n.children (let k = few in omega (arith, four))

  places : taken ++ replicate (most_children - length taken) 0 ≡ n.children
  places =
      let rest = length-replicate {A = ℕ} (most_children - length taken) 0 in
      let whole : length (taken ++ replicate (most_children - length taken) 0) ≡ most_children = length-append taken (replicate (most_children - length taken) 0) ∙ (let k = few in omega (arith, long, rest)) in
      ext_get_or 0 (taken ++ replicate (most_children - length taken) 0) n.children (whole ∙ sym four) (λ j l. each j (rw whole at l))
    where
      each : (j : ℕ) → j < most_children → get_or (taken ++ replicate (most_children - length taken) 0) j 0 ≡ get_or n.children j 0
      each j l = go (dec_lt j n.arity)
        where
          go : Dec (j < n.arity) → get_or (taken ++ replicate (most_children - length taken) 0) j 0 ≡ get_or n.children j 0
          go (yes b) = get_or-append taken (replicate (most_children - length taken) 0) 0 j (rw long b) ∙ get_or-take n.arity n.children j 0 b
          go (no b) =
              ap (λ (k : ℕ). get_or (taken ++ replicate (most_children - length taken) 0) k 0) (let e : j ≡ length taken + (j - length taken) = omega (arith, long) in e)
              ∙ get_or-append-add taken (replicate (most_children - length taken) 0) (j - length taken) 0
              ∙ get_or-replicate {A = ℕ} (most_children - length taken) (j - length taken) 0 0 (omega (arith, long))
              ∙ sym (f.places.unused j (omega arith))

  hash : node_hash_of n.kind n.payload (take (length taken) (taken ++ replicate (most_children - length taken) 0)) ≡ n.hash
  unfolding node_hash
  hash = ap (node_hash_of n.kind n.payload) (take_at taken (replicate (most_children - length taken) 0) (length taken) refl) ∙ sym f.hashed

  pub stored_is : stored_node (plain_node n) ≡ n
  unfolding stored_node plain_node new_node
  stored_is = λ x. record {
    kind = n.kind;
    payload = n.payload;
    hash = hash x;
    coefficient = sym f.weighed x;
    flags = flags_back n.flags f.marks x;
    arity = long x;
    children = places x;
  }

-- ---- the words

-- a word of the list, by the node that it belongs to
word_at : (w : List ℕ) (i j : ℕ) → j < node_words → get_or (words_of (node_at w i)) j 0 ≡ get_or w (i * node_words + j) 0
unfolding words_of node_at
word_at w i zero l = refl
word_at w i (suc zero) l = refl
word_at w i (suc (suc zero)) l = refl
word_at w i (suc (suc (suc zero))) l = refl
word_at w i (suc (suc (suc (suc zero)))) l = refl
word_at w i (suc (suc (suc (suc (suc zero))))) l = refl
word_at w i (suc (suc (suc (suc (suc (suc j)))))) l =
    words_at most_children w (i * node_words + children_word) j (omega arith)
    ∙ ap (λ (x : ℕ). get_or w x 0) (let e : i * node_words + children_word + j ≡ i * node_words + suc (suc (suc (suc (suc (suc j))))) = omega arith in e)

words_long : (w : List ℕ) (i : ℕ) → length (words_of (node_at w i)) ≡ node_words
unfolding words_of
words_long w i = let c = children_length w i in omega arith

-- the words of one node stand together
words_there : (w : List ℕ) (i : ℕ) → i * node_words + node_words ≤ length w → take node_words (drop (i * node_words) w) ≡ words_of (node_at w i)
words_there w i l =
    let n : length (take node_words (drop (i * node_words) w)) ≡ node_words = length-take-le node_words (drop (i * node_words) w) (let d = length-drop (i * node_words) w in omega arith) in
    ext_get_or 0 (take node_words (drop (i * node_words) w)) (words_of (node_at w i)) (n ∙ sym (words_long w i)) (λ j b.
    let m : j < node_words = rw n at b in
    get_or-take node_words (drop (i * node_words) w) j 0 m ∙ get_or-drop (i * node_words) w j 0 ∙ sym (word_at w i j m))

words_append : (a b : List N.Node) → nodes_words (a ++ b) ≡ nodes_words a ++ nodes_words b
unfolding nodes_words
words_append [] b = refl
words_append (n ∷ a) b = ap (λ (l : List ℕ). words_of (stored_node n) ++ l) (words_append a b) ∙ sym (append_assoc (words_of (stored_node n)) (nodes_words a) (nodes_words b))

words_one : (n : N.Node) → nodes_words (n ∷ []) ≡ words_of (stored_node n)
unfolding nodes_words
words_one n = append-nil (words_of (stored_node n))

-- the words in use are those of the nodes in them
pub words_are : (w : List ℕ) (count : ℕ) → AllWellFormed w count → take (count * node_words) w ≡ nodes_words (nodes_in w count)
unfolding nodes_in nodes_words
words_are w zero f = refl
words_are w (suc n) f =
    let l = f.fits in
    let before : AllWellFormed w n = record { many = let m = f.many in omega arith; fits = omega arith; each = λ i b. f.each i (omega arith) } in
    let own = stored_is n (node_at w n) (f.each n (omega arith)) (children_length w n) in
    ap (λ (k : ℕ). take k w) (let e : suc n * node_words ≡ n * node_words + node_words = omega arith in e)
    ∙ take-add (n * node_words) node_words w
    ∙ ap₂ (λ (a b : List ℕ). a ++ b) (words_are w n before) (words_there w n (omega arith) ∙ sym (words_one (plain_node (node_at w n)) ∙ ap words_of own))
    ∙ sym (words_append (nodes_in w n) (plain_node (node_at w n) ∷ []))

-- ---- the slots

pub hash_is : (w : List ℕ) (count : ℕ) → AllWellFormed w count → (i : ℕ) → i < count → hash_in (nodes_in w count) i ≡ hash_at w i
hash_is w count f i l = ap (λ (n : N.Node). (stored_node n).hash) (at_plain w count i l) ∙ ap (λ (n : DagNode). n.hash) (stored_is i (node_at w i) (f.each i l) (children_length w i))

-- ---- the memory

-- a sound memory is the one that its nodes give over any with its words and slots past those in use
module _ (m m' : Memory) (h : model.Sound m') (size : m'.arena.size ≡ table_size_from most_doublings m.arena.size m'.arena.count) (words_past : drop (m'.arena.count * node_words) m'.words ≡ drop (m'.arena.count * node_words) m.words) (slots_past : drop m'.arena.size m'.slots ≡ drop m'.arena.size m.slots) where
  abbrev ns : List N.Node
  ns = nodes_of m'

  count_is : m'.arena.count ≡ length ns
  count_is = sym (plain_length m'.words m'.arena.count)

  size_is : m'.arena.size ≡ size_for m ns
  size_is = size ∙ ap (table_size_from most_doublings m.arena.size) count_is

  words_is : m'.words ≡ nodes_words ns ++ drop (length ns * node_words) m.words
  words_is =
      sym (take-append-drop (m'.arena.count * node_words) m'.words)
      ∙ ap₂ (λ (a b : List ℕ). a ++ b) (words_are m'.words m'.arena.count h.nodes.formed) (words_past ∙ ap (λ (k : ℕ). drop (k * node_words) m.words) count_is)

  table_is : take m'.arena.size m'.slots ≡ inserted (hash_in ns) (size_for m ns) (length ns)
  table_is =
      h.table.filled
      ∙ sym (inserted_same (hash_at m'.words) (hash_in ns) m'.arena.size m'.arena.count (hash_is m'.words m'.arena.count h.nodes.formed))
      ∙ ap₂ (inserted (hash_in ns)) size_is count_is

  slots_is : m'.slots ≡ inserted (hash_in ns) (size_for m ns) (length ns) ++ drop (size_for m ns) m.slots
  slots_is =
      sym (take-append-drop m'.arena.size m'.slots)
      ∙ ap₂ (λ (a b : List ℕ). a ++ b) table_is (slots_past ∙ ap (λ (k : ℕ). drop k m.slots) size_is)

  pub memory_is : m' ≡ memory_after m (nodes_of m')
  memory_is = λ x. memory (words_is x) (slots_is x) (arena_of (count_is x) (size_is x))
