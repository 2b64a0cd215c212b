-- The answers to a node, and what each leaves.
use Prim.Native.Nat.{ℕ, ◌+◌, ◌*◌, ◌/◌, ◌≤◌, ◌<◌}
use mathlib.Core.Path.{◌≡◌, refl, ap}
use mathlib.Core.Bool.{false, ◌||◌}
use mathlib.Core.List.{List}
use mathlib.Core.Option.{some}
use lib.ListN.{length, set}
use lib.Dec.{leb, ltb}
use native.Mathlib.Omega.{arith}
use borrow.Author.Tests.{le-leb, lt-leb, lt-ltb, le-ltb}
use Rattle.arena.specs.declared.DagArena.{DagArena}
use Rattle.arena.specs.declared.node.DagNode.{DagNode}
use Rattle.arena.specs.Layout.{node_words, most_nodes, most_children}
use Rattle.arena.specs.Node.{put, find}
use Rattle.arena.specs.Nodes.{AllWellFormed, Nodes}
use Rattle.arena.proofs.Putting.{put_old, put_new}
use Rattle.arena.proofs.Adding.{nodes_add}
use Rattle.arena.proofs.Finding.{found_at}
use Rattle.refusal.specs.declared.Refusal.{Refusal}
use Rattle.refusal.specs.declared.Refusal.TheVariants.{NoNodePlace, NoSlotPlace}
use Rattle.std.proofs.Common.{Ok, Err}
use Rattle.definitions.specs.Intern.{capacity}
use Rattle.slots.specs.Table.{Table, hash_at}
use Rattle.slots.specs.Insert.{FirstFree, FitsTable, Rehashed}
use Rattle.dedup.specs.Intern.{Interned, answered, new_answer, intern_answer, words_after, Inserts, Absent}
use Rattle.slots.proofs.Doubling.{at_least, doubled_twice}
use Rattle.slots.proofs.Inserting.{table_add, past_add}

-- an old node
pub old_answer : (w slots : List ℕ) (a : DagArena) (key : DagNode) (id : ℕ) → find w a.count key ≡ some id → Nodes w a.count → Table (hash_at w) a.count slots a.size → Inserts w slots a key (answered (Ok id) a.count a.size) w slots
unfolding intern_answer words_after
old_answer w slots a key id e s t = record { answer = rw e refl; words_then = rw (lt-ltb id a.count (found_at w key a.count id e).0) refl; slots_past = refl; nodes = s; table = t }

module _ (w slots : List ℕ) (a : DagArena) (key : DagNode) (x : Absent w slots a key) where
  abbrev count : ℕ
  count = a.count

  abbrev size : ℕ
  size = a.size

  new : (r : Interned) → r ≡ new_answer (length w) (length slots) count size → r ≡ intern_answer (find w count key) (length w) (length slots) count size
  unfolding intern_answer
  new r e = rw x.absent e

  refuse : (k : Refusal) → answered (Err k) count size ≡ new_answer (length w) (length slots) count size → Inserts w slots a key (answered (Err k) count size) w slots
  unfolding words_after
  refuse k e = record { answer = new _ e; words_then = refl; slots_past = refl; nodes = x.nodes; table = x.table }

  pub refuse_count : most_nodes ≤ count → Inserts w slots a key (answered (Err NoNodePlace) count size) w slots
  unfolding new_answer
  refuse_count m = refuse NoNodePlace (rw (le-leb most_nodes count m) refl)

  pub refuse_words : count < most_nodes → length w < count * node_words + node_words → Inserts w slots a key (answered (Err NoNodePlace) count size) w slots
  unfolding new_answer
  refuse_words m l = refuse NoNodePlace (rw (lt-leb most_nodes count m, lt-ltb (length w) (count * node_words + node_words) l) refl)

  module _ (many : count < most_nodes) (fits : count * node_words + node_words ≤ length w) where
    no_21 : (leb most_nodes count || ltb (length w) (count * node_words + node_words)) ≡ false
    no_21 = rw (lt-leb most_nodes count many, le-ltb (length w) (count * node_words + node_words) fits) refl

    pub refuse_slots : capacity size ≤ count → length slots < size * 2 → Inserts w slots a key (answered (Err NoSlotPlace) count size) w slots
    unfolding new_answer
    refuse_slots l m = refuse NoSlotPlace (rw (no_21, lt-leb (count + 1) (capacity size) (omega arith), lt-ltb (length slots) (size * 2) m) refl)

    module _ (len : length key.children ≡ most_children) where
      abbrev w' : List ℕ
      w' = put w count key

      old_hash : (i : ℕ) → i < count → hash_at w' i ≡ hash_at w i
      old_hash i l = ap (λ (n : DagNode). n.hash) (put_old w count key fits len i l)

      new_hash : hash_at w' count ≡ key.hash
      new_hash = ap (λ (n : DagNode). n.hash) (put_new w count key fits len)

      nodes' : Nodes w' (count + 1)
      nodes' = nodes_add w count key many fits len x.nodes x.formed x.absent

      module _ (load : count < capacity size) (place : ℕ) (free : FirstFree slots size key.hash place) where
        free' : FirstFree slots size (hash_at w' count) place
        free' = rw new_hash free

        pub added : Inserts w slots a key (answered (Ok count) (count + 1) size) w' (set slots place (count + 1))
        unfolding new_answer words_after
        added = record {
          answer = new _ (rw (no_21, le-leb (count + 1) (capacity size) (omega arith)) refl);
          words_then = rw (le-ltb count count (omega arith)) refl;
          slots_past = past_add (hash_at w) count slots size x.table (hash_at w') old_hash place free' (omega arith);
          nodes = nodes';
          table = table_add (hash_at w) count slots size x.table (hash_at w') old_hash place free' (omega arith);
        }

      module _ (full : capacity size ≤ count) (enough : size ≤ length slots / 2) where
        -- all nodes, the new one too, go into the doubled table
        pub doubles : AllWellFormed w' (count + 1) × FitsTable (count + 1) slots (size * 2)
        doubles = (
          nodes'.formed,
          record {
            doubled = doubled_twice size x.table.doubled;
            sized = omega arith;
            load = let p = x.table.load in let q = at_least size x.table.doubled in omega arith;
          },
        )

        pub added_doubled : (slots' : List ℕ) → Rehashed (hash_at w') (count + 1) slots (size * 2) slots' → Inserts w slots a key (answered (Ok count) (count + 1) (size * 2)) w' slots'
        unfolding new_answer words_after
        added_doubled slots' r = record {
          answer = new _ (rw (no_21, lt-leb (count + 1) (capacity size) (omega arith), le-ltb (length slots) (size * 2) (omega arith)) refl);
          words_then = rw (le-ltb count count (omega arith)) refl;
          slots_past = r.past;
          nodes = nodes';
          table = r.table;
        }
