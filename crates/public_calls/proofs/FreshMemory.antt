-- A fresh store's memory is sound and without nodes.
use Prim.Native.Nat.{ℕ, ◌≤◌, ◌-◌}
use mathlib.Core.Path.{◌≡◌, refl, ap, ◌∙◌}
use mathlib.Core.Bool.{false}
use mathlib.Core.List.{List}
use lib.ListN.{length, drop, replicate, length-append, length-drop, length-replicate}
use native.Mathlib.Omega.{arith}
use borrow.Author.Tests.{ltb-false}
use Rattle.slots.specs.Table.{hash_at}
use Rattle.slots.proofs.Renewing.{empty}
use Rattle.definitions.specs.Limits.{first_table_size}
use Rattle.definitions.specs.Machine.{fresh_refused}
use Rattle.definitions.specs.Promise.{Fresh}
use Rattle.store.specs.View.{nodes_in, lent}
use Rattle.store.specs.Memory.{model}
use Rattle.builder.specs.Opens.{fresh_slots, fresh_memory}
use Rattle.builder.proofs.Opened.{none_formed}

module _ (words slots : List ℕ) (few : fresh_refused (lent words slots) ≡ false) where
  enough : first_table_size ≤ length slots
  enough = ltb-false (length slots) first_table_size few

  pub fresh_sound : Fresh model (fresh_memory words slots)
  unfolding nodes_in
  fresh_sound = record {
    sound = record {
      nodes = record { formed = none_formed words; apart = λ i j a. absurd (omega arith) };
      table = empty (hash_at words) first_table_size slots (record { doublings = 0; is = refl }) enough;
    };
    view = refl;
  }

  pub fresh_lent : model.lent (fresh_memory words slots) ≡ lent words slots
  fresh_lent =
      let rest : length (drop first_table_size slots) ≡ length slots - first_table_size = length-drop first_table_size slots in
      let more : first_table_size ≤ length slots = enough in
      let long : length (fresh_slots false slots) ≡ length slots = length-append (replicate first_table_size 0) (drop first_table_size slots) ∙ omega (arith, length-replicate {A = ℕ} first_table_size 0) in
      ap (λ (n : ℕ). record { nodes = (lent words slots).nodes; slots = n }) long
