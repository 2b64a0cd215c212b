-- The 22 words of a node, of 64 bits each: its kind, payload, hash, coefficient's bits, flags and child count, and the child places.
use Rattle.std.specs.Prelude.{ℕ}
use Rattle.arena.specs.declared.DagArena.{DagArena}
pub use Rattle.definitions.specs.Limits.{most_children, most_nodes}

abbrev pub node_words : ℕ
node_words = 22

-- where a node's words stand, counted from its first
abbrev pub kind_word : ℕ
kind_word = 0

abbrev pub payload_word : ℕ
payload_word = 1

abbrev pub hash_word : ℕ
hash_word = 2

abbrev pub coefficient_word : ℕ
coefficient_word = 3

abbrev pub flags_word : ℕ
flags_word = 4

abbrev pub arity_word : ℕ
arity_word = 5

abbrev pub children_word : ℕ
children_word = 6

-- the count of nodes and the size of the table as one
abbrev pub arena_of : ℕ → ℕ → DagArena
arena_of count size = record { count = count; size = size }
