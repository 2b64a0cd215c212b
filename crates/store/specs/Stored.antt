-- The words and slots that the plain machine's nodes give.
use Rattle.std.specs.Prelude.{ℕ, ◌+◌, ◌-◌, cond, List, [], ◌∷◌, ◌++◌, length, replicate}
use Rattle.arena.specs.declared.node.DagNode.{DagNode}
use Rattle.arena.specs.Layout.{most_children}
use Rattle.arena.specs.Node.{words_of, new_node, canonical}
use Rattle.definitions.specs.Node as N

-- a plain node as a node of the memory: its hash and coefficient, its mark among the flags, and 0 in the places past its children
unfoldable pub stored_node : N.Node → DagNode
stored_node n =
    new_node n.kind n.payload (n.flags + cond n.canonical canonical 0) (length n.children)
    (n.children ++ replicate (most_children - length n.children) 0)

-- the words of nodes, by rising id
unfoldable pub nodes_words : List N.Node → List ℕ
nodes_words [] = []
nodes_words (n ∷ ns) = words_of (stored_node n) ++ nodes_words ns

-- the hash of each id
abbrev pub hash_in : List N.Node → ℕ → ℕ
hash_in ns i = (stored_node (N.at ns i)).hash
