-- A node, and its words in the lent list.
use Rattle.std.specs.Prelude.{ℕ, zero, suc, ◌+◌, ◌-◌, ◌*◌, ◌%◌, Bool, cond, ◌&&◌, List, [], ◌∷◌, ◌++◌, length, get_or, take, drop, set, replicate, eqb}
use Rattle.std.proofs.Math.Option.{Option, none, some}
use Rattle.definitions.specs.Node.{constant_kind, same_children}
use Rattle.hash.specs.Fnv.{node_hash_of}
use Rattle.arena.specs.declared.node.DagNode.{DagNode}
use Rattle.arena.specs.Layout.{node_words, most_children, kind_word, payload_word, hash_word, coefficient_word, flags_word, arity_word, children_word}

-- so many words from a place on
unfoldable pub words_from : ℕ → List ℕ → ℕ → List ℕ
words_from zero words at = []
words_from (suc n) words at = get_or words at 0 ∷ words_from n words (suc at)

-- the node of an id
unfoldable pub node_at : List ℕ → ℕ → DagNode
node_at words id = record {
  kind = get_or words (id * node_words + kind_word) 0;
  payload = get_or words (id * node_words + payload_word) 0;
  hash = get_or words (id * node_words + hash_word) 0;
  coefficient = get_or words (id * node_words + coefficient_word) 0;
  flags = get_or words (id * node_words + flags_word) 0;
  arity = get_or words (id * node_words + arity_word) 0;
  children = words_from most_children words (id * node_words + children_word);
}

-- the words of a node
unfoldable pub words_of : DagNode → List ℕ
words_of n = n.kind ∷ n.payload ∷ n.hash ∷ n.coefficient ∷ n.flags ∷ n.arity ∷ n.children

-- the list with a node's words at an id, and every other word as it was
unfoldable pub put : List ℕ → ℕ → DagNode → List ℕ
put words id n = take (id * node_words) words ++ words_of n ++ drop (id * node_words + node_words) words

-- the flag of a marked node; 1 is commutative, 2 associative
abbrev pub canonical : ℕ
canonical = 4

-- flags are 0 to 7
abbrev pub flags_end : ℕ
flags_end = 8

-- two nodes are one if their kinds, payloads, children and flags without 4 agree. Unused child places are 0.
unfoldable pub one : DagNode → DagNode → Bool
one a b =
    eqb a.kind b.kind
    && (eqb a.payload b.payload
    && (eqb (a.flags % canonical) (b.flags % canonical)
    && (eqb a.arity b.arity && same_children a.children b.children)))

-- the hash of a node: over its kind, its payload and the children that it has
unfoldable pub node_hash : DagNode → ℕ
node_hash n = node_hash_of n.kind n.payload (take n.arity n.children)

-- the binary64 bits of 1.0
abbrev pub bits_of_one : ℕ
bits_of_one = 4607182418800017408

-- the coefficient is a constant's value, else 1.0
unfoldable pub coefficient : ℕ → ℕ → ℕ
coefficient kind payload = cond (eqb kind constant_kind) payload bits_of_one

-- a node with its hash and its coefficient
unfoldable pub new_node : ℕ → ℕ → ℕ → ℕ → List ℕ → DagNode
new_node kind payload flags arity children = record {
  kind = kind;
  payload = payload;
  hash = node_hash_of kind payload (take arity children);
  coefficient = coefficient kind payload;
  flags = flags;
  arity = arity;
  children = children;
}

-- child places that hold these children, and 0 after them
unfoldable pub places_of : List ℕ → List ℕ
places_of children = children ++ replicate (most_children - length children) 0

-- a node over lent children, with its hash and its coefficient
unfoldable pub node_of : ℕ → ℕ → ℕ → List ℕ → DagNode
node_of kind payload flags children = record {
  kind = kind;
  payload = payload;
  hash = node_hash_of kind payload children;
  coefficient = coefficient kind payload;
  flags = flags;
  arity = length children;
  children = places_of children;
}

-- the words with a node's mark set
unfoldable pub marked : List ℕ → ℕ → List ℕ
marked words id = set words (id * node_words + flags_word) (get_or words (id * node_words + flags_word) 0 % canonical + canonical)

-- the id of the node that is one with a key, found by comparing it with every node
unfoldable pub find : List ℕ → ℕ → DagNode → Option ℕ
find words zero key = none
find words (suc n) key = cond (one (node_at words n) key) (some n) (find words n key)
