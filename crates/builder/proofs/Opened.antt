-- A fresh store, and its refusal.
use Prim.Native.Nat.{ℕ, ◌≤◌, ◌<◌}
use mathlib.Core.Path.{◌≡◌, refl, sym, ap, ◌∙◌, subst}
use mathlib.Core.List.{List, ◌++◌}
use lib.ListN.{length, take, drop, replicate, take-append-drop}
use native.Mathlib.Omega.{arith}
use borrow.Author.Tests.{lt-ltb, le-ltb}
use Rattle.arena.specs.declared.DagArena.{DagArena}
use Rattle.arena.specs.Nodes.{AllWellFormed}
use Rattle.slots.specs.Table.{hash_at}
use Rattle.slots.specs.Insert.{FitsTable, Rehashed}
use Rattle.slots.proofs.Inserting.{inserted_none}
use Rattle.definitions.specs.Limits.{first_table_size}
use Rattle.definitions.specs.Refusals.{no_slot_place}
use Rattle.definitions.specs.Promise.{Fresh}
use Rattle.store.specs.View.{nodes_in}
use Rattle.store.specs.Memory.{memory, model}
use Rattle.std.proofs.Common.{Ok, Err}
use Rattle.builder.specs.Opens.{Opens}

-- no nodes are well formed
pub none_formed : (w : List ℕ) → AllWellFormed w 0
none_formed w = record { many = omega arith; fits = omega arith; each = λ i l. absurd (omega arith) }

pub first_fits : (slots : List ℕ) → first_table_size ≤ length slots → FitsTable 0 slots first_table_size
first_fits slots l = record { doubled = record { doublings = 0; is = refl }; sized = l; load = omega arith }

pub opens_refused : (w slots : List ℕ) → length slots < first_table_size → Opens w slots (Err no_slot_place) slots
opens_refused w slots l = record {
  answer = rw (lt-ltb (length slots) first_table_size l) refl;
  slots_after = rw (lt-ltb (length slots) first_table_size l) refl;
  fresh = λ arena e. absurd (let z : ◌≡◌ {A = ℕ} 0 1 = cc in omega arith);
}

abbrev first : DagArena
first = record { count = 0; size = first_table_size }

module _ (w slots slots' : List ℕ) (l : first_table_size ≤ length slots) (long : length slots' ≡ length slots) (r : Rehashed (hash_at w) 0 slots first_table_size slots') where
  -- no slot of the table is in use
  empty : take first_table_size slots' ≡ replicate first_table_size 0
  empty = r.table.filled ∙ inserted_none (hash_at w) first_table_size

  fresh_first : Fresh model (memory w slots' first)
  unfolding nodes_in
  fresh_first = record { sound = record { nodes = record { formed = none_formed w; apart = λ i j a. absurd (omega arith) }; table = r.table }; view = refl }

  pub opens_first : Opens w slots (Ok first) slots'
  opens_first = record {
    answer = rw (le-ltb (length slots) first_table_size l) refl;
    slots_after = sym (take-append-drop first_table_size slots') ∙ ap (λ (x : List ℕ). x ++ drop first_table_size slots') empty ∙ ap (λ (x : List ℕ). replicate first_table_size 0 ++ x) r.past ∙ (rw (le-ltb (length slots) first_table_size l) refl);
    fresh = λ arena e. let same : first ≡ arena = cc in subst (λ (a : DagArena). Fresh model (memory w slots' a)) same fresh_first;
  }
