-- A text read into fresh lists, as the plain machine reads it.
use Prim.Native.Nat.{ℕ, ◌+◌, ◌/◌, ◌≤◌}
use mathlib.Core.Path.{◌≡◌, refl, sym, ap, ap₂, ◌∙◌, subst}
use mathlib.Core.Bool.{Bool, true, false, cond, false≢true}
use mathlib.Core.List.{List, [], ◌∷◌}
use lib.ListN.{length, drop, replicate, length-append, length-drop, length-replicate}
use native.Mathlib.Omega.{arith}
use borrow.Author.Tests.{eq-eqb, ne_eqb, le-ltb}
use Rattle.arena.specs.declared.DagArena.{DagArena}
use Rattle.arena.specs.Layout.{node_words}
use Rattle.definitions.specs.Controller.{LentLists, Controller, AfterCall, controller_call, reading, store_part, names_part}
use Rattle.definitions.specs.Machine.{fresh_refused}
use Rattle.definitions.specs.Promise.{All}
use Rattle.definitions.specs.Beside.{SoundPart}
use Rattle.definitions.proofs.Lifting.{fresh_beside}
use Rattle.store.specs.declared.NodeAnswer.{NodeAnswer}
use Rattle.store.specs.declared.NodeAnswer.TheVariants.{Id, Refused}
use Rattle.store.specs.Memory.{memory, model}
use Rattle.store.specs.View.{lent}
use Rattle.std.proofs.Common.{Ok, Err}
use Rattle.builder.specs.Opens.{FreshStore, Opens, fresh_answer, fresh_slots}
use Rattle.names.specs.Memory.{name_memory, name_model}
use Rattle.name_entries.specs.Sound.{lent_entries}
use Rattle.names.proofs.Modelled.{no_names}
use Rattle.listing_lines.specs.declared.SheetOutcome.TheVariants as outcome
use Rattle.text.specs.Memory.{ControllerMemory, controller_memory}
use Rattle.text.specs.Reading.{ReadsText}
use Rattle.text.proofs.Calling.{read_called}
use Rattle.text_place.specs.Stopping.{StopsAt}
use Rattle.text_listing_bytes.specs.Listed.{lent_lists, read_text, ReadsFresh, PlaceOf, outcome_of}

-- ---- the fresh store

fresh_long : (b : Bool) (slots : List ℕ) → 64 ≤ length slots → length (fresh_slots b slots) ≡ length slots
fresh_long true slots l = refl
fresh_long false slots l = length-append {A = ℕ} (replicate 64 0) (drop 64 slots) ∙ ap₂ (λ (x y : ℕ). x + y) (length-replicate {A = ℕ} 64 0) (length-drop 64 slots) ∙ omega arith

abbrev is_store : FreshStore → Bool
is_store (Ok arena) = true
is_store (Err number) = false

pub never_refused : (words slots slots₁ : List ℕ) (o : FreshStore) (number : ℕ) → 64 ≤ length slots → Opens words slots o slots₁ → o ≡ Err number → ⊥
never_refused words slots slots₁ o number l h e =
    false≢true (sym (ap is_store e) ∙ ap is_store h.answer ∙ ap (λ (b : Bool). is_store (fresh_answer b)) (le-ltb (length slots) 64 l))

pub read_fresh : (s words slots slots₁ entries : List ℕ) (o : FreshStore) (arena : DagArena) (a : NodeAnswer) (d : ControllerMemory) → 64 ≤ length slots → Opens words slots o slots₁
    → o ≡ Ok arena → ReadsText s (controller_memory words slots₁ arena entries 0) a d → ReadsFresh s (lent_lists words slots entries) a d
unfolding lent_lists
read_fresh s words slots slots₁ entries o arena a d l h e r =
    let both = fresh_beside model name_model (memory words slots₁ arena) (name_memory entries 0) (h.fresh arena e) (no_names entries) in
    let called = read_called s (controller_memory words slots₁ arena entries 0) d a r in
    let parts : All (SoundPart model name_model _) (store_part ∷ names_part ∷ []) = (both.sound store_part, (both.sound names_part, tt)) in
    let long : length slots₁ ≡ length slots = ap length h.slots_after ∙ fresh_long (fresh_refused (lent words slots)) slots l in
    let same : lent_lists words slots₁ entries ≡ lent_lists words slots entries = ap (λ (n : ℕ). record { store = record { nodes = length words / node_words; slots = n }; names = lent_entries entries }) long in
    let after : controller_call (lent_lists words slots₁ entries) _ (reading s) ≡ read_text (lent_lists words slots entries) s = ap₂ (λ (x : LentLists) (y : Controller). controller_call x y (reading s)) same both.view in
    record {
      answer = called.answer parts ∙ ap (λ (x : AfterCall). x.answer) after;
      left = called.left parts ∙ ap (λ (x : AfterCall). x.left) after;
      sound = record { store = called.sound parts store_part (both.sound store_part); names = called.sound parts names_part (both.sound names_part) };
    }

-- ---- the place, and the first line

module _ (s : List ℕ) (a : NodeAnswer) where
  pub place_none : (id : ℕ) → a ≡ Id id → PlaceOf s a 0
  place_none id e = subst (λ (x : NodeAnswer). PlaceOf s x 0) (sym e) refl

  pub place_outside : (number r : ℕ) → a ≡ Refused number → number ≡ 11 → StopsAt s r → PlaceOf s a r
  place_outside number r e n h = subst (λ (x : NodeAnswer). PlaceOf s x r) (sym e) (subst (λ (b : Bool). cond b (StopsAt s r) (r ≡ 0)) (sym (eq-eqb number 11 n)) h)

  pub place_other : (number : ℕ) → a ≡ Refused number → (number ≡ 11 → ⊥) → PlaceOf s a 0
  place_other number e n = subst (λ (x : NodeAnswer). PlaceOf s x 0) (sym e) (subst (λ (b : Bool). cond b (StopsAt s 0) (◌≡◌ {A = ℕ} 0 0)) (sym (ne_eqb number 11 n)) refl)

pub ok_outcome : (a : NodeAnswer) (id place : ℕ) → a ≡ Id id → outcome.Ok id ≡ outcome_of a place
ok_outcome a id place e = sym (ap (λ (x : NodeAnswer). outcome_of x place) e)

pub refused_outcome : (a : NodeAnswer) (number place : ℕ) → a ≡ Refused number → outcome.Refused number place ≡ outcome_of a place
refused_outcome a number place e = sym (ap (λ (x : NodeAnswer). outcome_of x place) e)
