-- What a call with a node answers and leaves.
use Rattle.std.specs.Prelude.{ℕ, ◌+◌, ◌*◌, ◌≤◌, ◌<◌, ◌≡◌, cond, ◌||◌, Result, Ok, Err, List, length, drop, leb, ltb}
use Rattle.std.proofs.Math.Option.{Option, none, some}
use Rattle.arena.specs.declared.DagArena.{DagArena}
use Rattle.arena.specs.declared.node.DagNode.{DagNode}
use Rattle.arena.specs.Layout.{node_words, most_nodes, arena_of}
use Rattle.arena.specs.Node.{put, find}
use Rattle.arena.specs.Nodes.{WellFormed, Nodes}
use Rattle.refusal.specs.declared.Refusal.{Refusal}
use Rattle.refusal.specs.declared.Refusal.TheVariants.{NoNodePlace, NoSlotPlace}
use Rattle.definitions.specs.Intern.{capacity}
use Rattle.slots.specs.Table.{Table, hash_at}

-- an answer, and the counts of the store after it
pub record Interned : Type 0 where
  pub answer : Result ℕ Refusal
  pub arena : DagArena

abbrev pub answered : Result ℕ Refusal → ℕ → ℕ → Interned
answered answer count size = record { answer = answer; arena = arena_of count size }

-- to a new node, with so many words and slots lent: there is no place for it past 65,536 nodes or past the lent words, and no slot where it
-- needs a doubling and the lent slots are too few
unfoldable pub new_answer : ℕ → ℕ → ℕ → ℕ → Interned
new_answer words slots count size =
    cond (leb most_nodes count || ltb words (count * node_words + node_words)) (answered (Err NoNodePlace) count size)
    (cond (leb (count + 1) (capacity size)) (answered (Ok count) (count + 1) size)
    (cond (ltb slots (size * 2)) (answered (Err NoSlotPlace) count size)
    (answered (Ok count) (count + 1) (size * 2))))

-- an old node is found before anything is refused
unfoldable pub intern_answer : Option ℕ → ℕ → ℕ → ℕ → ℕ → Interned
intern_answer (some id) words slots count size = answered (Ok id) count size
intern_answer none words slots count size = new_answer words slots count size

-- the words after an answer, where so many nodes were: those of a new node, put at its id, which no old node has
unfoldable pub words_after : Result ℕ Refusal → List ℕ → ℕ → DagNode → List ℕ
words_after (Ok id) words count key = cond (ltb id count) words (put words id key)
words_after (Err refusal) words count key = words

-- the answer, the words after it, and the slots. Words and slots past the used ones stay.
pub record Inserts (words slots : List ℕ) (arena : DagArena) (key : DagNode) (r : Interned) (words' slots' : List ℕ) : Type 0 where
  pub answer : r ≡ intern_answer (find words arena.count key) (length words) (length slots) arena.count arena.size
  pub words_then : words' ≡ words_after r.answer words arena.count key
  pub slots_past : drop r.arena.size slots' ≡ drop r.arena.size slots
  pub nodes : Nodes words' r.arena.count
  pub table : Table (hash_at words') r.arena.count slots' r.arena.size

-- a key that is none of the nodes
pub record Absent (words slots : List ℕ) (arena : DagArena) (key : DagNode) : Type 0 where
  pub nodes : Nodes words arena.count
  pub table : Table (hash_at words) arena.count slots arena.size
  pub formed : WellFormed arena.count key
  pub absent : find words arena.count key ≡ none

-- and has a place for its words, in a table that must grow for it
pub record Full (words slots : List ℕ) (arena : DagArena) (key : DagNode) : Type 0 where
  pub new : Absent words slots arena key
  pub many : arena.count < most_nodes
  pub fits : arena.count * node_words + node_words ≤ length words
  pub load : capacity arena.size ≤ arena.count
