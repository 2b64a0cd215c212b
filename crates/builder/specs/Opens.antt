-- A fresh store has no nodes and 64 empty slots; with fewer slots lent it is refused with 22.
use Rattle.std.specs.Prelude.{ℕ, ◌≡◌, Bool, true, false, List, Result, Ok, Err, ◌++◌, drop, replicate}
use Rattle.arena.specs.declared.DagArena.{DagArena}
use Rattle.definitions.specs.Limits.{first_table_size}
use Rattle.definitions.specs.Refusals.{no_slot_place}
use Rattle.definitions.specs.Machine.{fresh_refused}
use Rattle.definitions.specs.Promise.{Fresh}
use Rattle.store.specs.View.{lent}
use Rattle.store.specs.Memory.{Memory, memory, model}

-- the counts of a fresh store, or the number of a refusal
abbrev pub FreshStore : Type 0
FreshStore = Result DagArena ℕ

abbrev pub fresh_answer : Bool → FreshStore
fresh_answer true = Err no_slot_place
fresh_answer false = Ok (record { count = 0; size = first_table_size })

-- a refusal changes nothing, and slots past the first 64 stay
abbrev pub fresh_slots : Bool → List ℕ → List ℕ
fresh_slots true slots = slots
fresh_slots false slots = replicate first_table_size 0 ++ drop first_table_size slots

-- the memory of a fresh store
abbrev pub fresh_memory : List ℕ → List ℕ → Memory
fresh_memory words slots = memory words (fresh_slots false slots) (record { count = 0; size = first_table_size })

-- the answer, the slots after it, and that a fresh store is sound
pub record Opens (words slots : List ℕ) (r : FreshStore) (slots' : List ℕ) : Type 0 where
  pub answer : r ≡ fresh_answer (fresh_refused (lent words slots))
  pub slots_after : slots' ≡ fresh_slots (fresh_refused (lent words slots)) slots
  pub fresh : (arena : DagArena) → r ≡ Ok arena → Fresh model (memory words slots' arena)
