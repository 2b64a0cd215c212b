-- Interning on the plain machine: an old node is found by comparing it with every node, and a new one goes to the end.
use Rattle.std.specs.Prelude.{ℕ, zero, suc, ◌*◌, ◌/◌, min, Bool, true, false, cond, List, [], ◌∷◌, ◌++◌, length, leb, ltb}
use Rattle.std.proofs.Math.Option.{Option, none, some}
use Rattle.definitions.specs.Limits.{most_nodes, first_table_size, most_doublings}
use Rattle.definitions.specs.Refusals.{no_node_place, no_slot_place}
use Rattle.definitions.specs.Node.{Node, same}

-- how many nodes and slots are lent
pub record Lent : Type 0 where
  pub nodes : ℕ
  pub slots : ℕ

-- what building leaves: the nodes with the id that was asked for, or the nodes so far with the refusal that stopped it
pub data Built : Type 0 where
  built : List Node → ℕ → Built
  stopped : List Node → ℕ → Built

-- building goes on with the id, or stays stopped
abbrev pub then : Built → (List Node → ℕ → Built) → Built
then (built ns i) f = f ns i
then (stopped ns r) f = stopped ns r

-- the id of the first node, counted from i, that is one with n
unfoldable pub find : Node → List Node → ℕ → Option ℕ
find n [] i = none
find n (m ∷ ms) i = elim (same m n) [ true ↦ some i | false ↦ find n ms (suc i) ]

-- floor(size * 7 / 10): how many nodes a table of a size holds
abbrev pub capacity : ℕ → ℕ
capacity size = size * 7 / 10

-- the least of size, 2 * size, 4 * size and so on, doubled so many times at most, that holds count nodes
unfoldable pub table_size_from : ℕ → ℕ → ℕ → ℕ
table_size_from zero size count = size
table_size_from (suc k) size count = elim (leb count (capacity size)) [ true ↦ size | false ↦ table_size_from k (size * 2) count ]

-- "the table size, for 22, is the least of 64, 128, 256 and so on whose floor(size*7/10) is at least the count"
unfoldable pub table_size : ℕ → ℕ
unfolding table_size_from
table_size count = table_size_from most_doublings first_table_size count

-- why a store of count nodes takes no new one: 21 "no place for a new node (65,536 at most)", or 22 "a new node needs a doubling and the
-- lent slots are too few"
unfoldable pub no_place : Lent → ℕ → Option ℕ
unfolding table_size
no_place l count =
    cond (leb (min l.nodes most_nodes) count) (some no_node_place)
    (cond (ltb l.slots (table_size (suc count))) (some no_slot_place) none)

-- a new node's id is the count
abbrev pub add_new : List Node → Node → Option ℕ → Built
add_new ns n none = built (ns ++ n ∷ []) (length ns)
add_new ns n (some r) = stopped ns r

abbrev pub found_or_new : Lent → List Node → Node → Option ℕ → Built
found_or_new l ns n (some i) = built ns i
found_or_new l ns n none = add_new ns n (no_place l (length ns))

-- the id of a node, old or new; an old one is found before 21 or 22 can apply
unfoldable pub intern : Lent → List Node → Node → Built
unfolding find no_place
intern l ns n = found_or_new l ns n (find n ns 0)
