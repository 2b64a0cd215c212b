-- Lent memory that holds given nodes and names, written out: words for a few nodes, a table of 64 slots, bytes for one name.
use Rattle.std.specs.Prelude.{ℕ, ◌+◌, ◌*◌, Bool, true, ◌&&◌, cond, List, [], ◌∷◌, ◌++◌, length, replicate, take}
use Rattle.arena.specs.Layout.{node_words, most_children, arena_of}
use Rattle.arena.specs.Node.{canonical, words_of, new_node}
use Rattle.slots.specs.Table.{inserted, hash_at}
use Rattle.definitions.specs.Limits.{first_table_size}
use Rattle.definitions.specs.Node.{Node}
use Rattle.definitions.specs.Lists.{LentLists, Controller}
use Rattle.definitions.specs.Names.{entry_bytes}
use Rattle.name_entries.specs.Entry.{entry_of}
use Rattle.names.specs.Memory.{NameMemory, name_memory}
use Rattle.store.specs.Memory.{Memory, memory}
use Rattle.text.specs.Memory.{ControllerMemory, controller_memory}

-- places for so many nodes and names
abbrev pub lent_nodes : ℕ
lent_nodes = 5

abbrev pub lent_names : ℕ
lent_names = 1

abbrev pub lent_here : LentLists
lent_here = record { store = record { nodes = lent_nodes; slots = first_table_size }; names = lent_names }

-- so many numbers, with 0s behind those that there are
abbrev pub padded : ℕ → List ℕ → List ℕ
padded n l = take n (l ++ replicate n 0)

-- the words of a node
abbrev pub node_in_words : Node → List ℕ
node_in_words n =
    let flags = cond n.canonical (n.flags + canonical) n.flags in
    words_of (new_node n.kind n.payload flags (length n.children) (padded most_children n.children))

abbrev pub nodes_in_words : List Node → List ℕ
nodes_in_words [] = []
nodes_in_words (n ∷ ns) = node_in_words n ++ nodes_in_words ns

abbrev pub words_for : List Node → List ℕ
words_for ns = padded (lent_nodes * node_words) (nodes_in_words ns)

abbrev pub entries_in_bytes : List (List ℕ) → List ℕ
entries_in_bytes [] = []
entries_in_bytes (name ∷ names) = entry_of name ++ entries_in_bytes names

abbrev pub bytes_for : List (List ℕ) → List ℕ
bytes_for names = padded (lent_names * entry_bytes) (entries_in_bytes names)

-- the memory of a controller
abbrev pub memory_for : Controller → ControllerMemory
memory_for s =
    let words = words_for s.nodes in
    let count = length s.nodes in
    controller_memory words (inserted (hash_at words) first_table_size count) (arena_of count first_table_size) (bytes_for s.names) (length s.names)
