-- A mark on a node leaves the table.
use Prim.Native.Nat.{ℕ, ◌+◌, ◌*◌, ◌≤◌, ◌<◌}
use mathlib.Core.Path.{◌≡◌, sym, ◌∙◌}
use mathlib.Core.List.{List}
use lib.ListN.{length}
use Rattle.arena.specs.Layout.{node_words}
use Rattle.arena.specs.Node.{marked}
use Rattle.arena.proofs.Marking.{mark_hash}
use Rattle.slots.specs.Table.{Table, hash_at}
use Rattle.slots.proofs.Inserting.{inserted_same}

-- a table by the same hashes
pub table_same : (f g : ℕ → ℕ) (count : ℕ) (slots : List ℕ) (size : ℕ) → ((i : ℕ) → i < count → g i ≡ f i) → Table f count slots size → Table g count slots size
table_same f g count slots size e t = record {
  doubled = t.doubled;
  sized = t.sized;
  load = t.load;
  filled = t.filled ∙ sym (inserted_same f g size count e);
}

pub mark_table : (w : List ℕ) (id : ℕ) → id * node_words + node_words ≤ length w → (count : ℕ) (slots : List ℕ) (size : ℕ) → Table (hash_at w) count slots size → Table (hash_at (marked w id)) count slots size
mark_table w id fits count slots size = table_same (hash_at w) (hash_at (marked w id)) count slots size (λ i l. mark_hash w id fits i)
