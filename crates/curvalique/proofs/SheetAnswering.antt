-- From a sheet's outcome to what it says in numbers.
use Prim.Native.Nat.{ℕ, zero, suc}
use mathlib.Core.Path.{◌≡◌, refl, sym, ap, ap₂, ◌∙◌, subst}
use mathlib.Core.List.{List, [], ◌∷◌}
use lib.ListN.{get_or}
use Rattle.arena.specs.declared.DagArena.{DagArena}
use Rattle.store.specs.Memory.{Memory, memory}
use Rattle.listing_lines.specs.declared.SheetOutcome.{SheetOutcome}
use Rattle.listing_lines.specs.declared.SheetOutcome.TheVariants.{Ok, Empty, Spent, Refused}
use Rattle.sheet.specs.declared.Ran.{Ran}
use Rattle.sheet.specs.Sheets.{Runs, RunsFresh}
use Rattle.outputs.specs.Calls.{arena_of, lent_memory}
use Rattle.outputs.specs.SheetCalls.{sheet_outcome, sheet_outputs}
use Rattle.curvalique.specs.SheetRuns.{sheet_ran}
use Rattle.curvalique.proofs.SheetRefusals.{runs_never_0, fresh_never_0}

-- the outcome that the numbers of a list say
abbrev outcome_in : List ℕ → SheetOutcome
outcome_in outputs = sheet_outcome (get_or outputs 0 0) (get_or outputs 1 0) (get_or outputs 2 0) (get_or outputs 3 0)

-- what an outcome leaves says that outcome
same_outcome : (o : SheetOutcome) (form id at : ℕ) → ((n : ℕ) → o ≡ Refused 0 n → ⊥) → outcome_in (sheet_outputs o form id at) ≡ o
same_outcome (Ok answered) form id at never = refl
same_outcome Empty form id at never = refl
same_outcome (Spent root) form id at never = refl
same_outcome (Refused zero refused_at) form id at never = absurd (never refused_at refl)
same_outcome (Refused (suc number) refused_at) form id at never = refl

module _ (o : SheetOutcome) (count size : ℕ) (arena : DagArena) (r form' id' at' form id at : ℕ)
    (a : arena_of count size ≡ arena) (e : r ∷ form' ∷ id' ∷ at' ∷ [] ≡ sheet_outputs o form id at) where
  says : ((n : ℕ) → o ≡ Refused 0 n → ⊥) → sheet_outcome r form' id' at' ≡ o
  says never = ap outcome_in e ∙ same_outcome o form id at never

  leaves : ((n : ℕ) → o ≡ Refused 0 n → ⊥) → r ∷ form' ∷ id' ∷ at' ∷ [] ≡ sheet_outputs (sheet_outcome r form' id' at') form id at
  leaves never = e ∙ sym (ap (λ (x : SheetOutcome). sheet_outputs x form id at) (says never))

  -- a sheet on any store, in numbers
  pub sheet_in_numbers : (s : List ℕ) (m : Memory) (words slots : List ℕ) → Runs s m o (memory words slots arena)
      → Runs s m (sheet_outcome r form' id' at') (lent_memory words slots count size) × (r ∷ form' ∷ id' ∷ at' ∷ [] ≡ sheet_outputs (sheet_outcome r form' id' at') form id at)
  sheet_in_numbers s m words slots h =
      let never = runs_never_0 s m o (memory words slots arena) h in
      (subst (λ (x : DagArena). Runs s m (sheet_outcome r form' id' at') (memory words slots x)) (sym a) (subst (λ (x : SheetOutcome). Runs s m x (memory words slots arena)) (sym (says never)) h), leaves never)

  -- a sheet on a fresh store, in numbers
  pub fresh_in_numbers : (s words slots : List ℕ) (before : DagArena) (ran : Ran) (words' slots' : List ℕ) → ran.outcome ≡ o → ran.arena ≡ arena → RunsFresh s words slots before ran words' slots'
      → RunsFresh s words slots before (sheet_ran (sheet_outcome r form' id' at') count size) words' slots' × (r ∷ form' ∷ id' ∷ at' ∷ [] ≡ sheet_outputs (sheet_outcome r form' id' at') form id at)
  fresh_in_numbers s words slots before ran words' slots' eo ea h =
      let never : (n : ℕ) → o ≡ Refused 0 n → ⊥ = λ n z. fresh_never_0 s words slots before ran words' slots' h n (eo ∙ z) in
      (subst (λ (x : Ran). RunsFresh s words slots before x words' slots') (ap₂ (λ (x : SheetOutcome) (y : DagArena). record { outcome = x; arena = y }) (eo ∙ sym (says never)) (ea ∙ sym a)) h, leaves never)
