-- One sheet on one memory has one outcome, and leaves one memory.
use Prim.Native.Nat.{ℕ}
use mathlib.Core.Path.{◌≡◌, refl, sym, ap, ap₂, subst, ◌∙◌}
use mathlib.Core.Bool.{Bool, true, false, cond}
use mathlib.Core.Option.{Option, none, some}
use mathlib.Core.List.{List, [], ◌∷◌, List-discrete}
use lib.Dec.{eqb}
use native.Mathlib.Decide.{ℕ_discrete}
use Rattle.arena.specs.declared.DagArena.{DagArena}
use Rattle.store.specs.View.{lent}
use Rattle.store.specs.Memory.{Memory, memory, model}
use Rattle.builder.specs.Opens.{fresh_memory}
use Rattle.listing_lines.specs.declared.SheetOutcome.{SheetOutcome}
use Rattle.listing_lines.specs.declared.SheetOutcome.TheVariants.{Ok, Empty, Spent, Refused}
use Rattle.sheet.specs.declared.Ran.{Ran}
use Rattle.sheet.specs.Sheets.{Runs, RunsFresh, refused_at_start, not_opened, Ended, ended}
use Rattle.public_calls.specs.Sheets.{OneRun, RunsOneWay, RunsFreshOneWay}

-- ---- lists that are the same whether something holds or not

either : {P : Type 0} (a b : List ℕ) → (P → a ≡ b) → ((P → ⊥) → a ≡ b) → a ≡ b
either {P} a b f g = by (List-discrete ℕ_discrete a b)
  where
    by : Dec (a ≡ b) → a ≡ b
    by (yes e) = e
    by (no n) = g (λ p. n (f p))

-- what a run leaves, as a list of numbers: an outcome, the counts, the words
outcome_numbers : SheetOutcome → List ℕ
outcome_numbers (Ok i) = 0 ∷ i ∷ []
outcome_numbers Empty = 1 ∷ []
outcome_numbers (Spent i) = 2 ∷ i ∷ []
outcome_numbers (Refused number at) = 3 ∷ number ∷ at ∷ []

outcome_from : List ℕ → SheetOutcome
outcome_from [] = Empty
outcome_from (k ∷ []) = Empty
outcome_from (k ∷ i ∷ []) = cond (eqb k 0) (Ok i) (Spent i)
outcome_from (k ∷ number ∷ at ∷ r) = Refused number at

back : (o : SheetOutcome) → outcome_from (outcome_numbers o) ≡ o
unfolding outcome_from outcome_numbers
back (Ok i) = refl
back Empty = refl
back (Spent i) = refl
back (Refused number at) = refl

-- ---- on any store

module _ (bytes : List ℕ) (m m' m'' : Memory) (o o' : SheetOutcome) (f : Runs bytes m o m') (g : Runs bytes m o' m'') where
  same : (d : Dec (model.Sound m)) → ended o m' ≡ ended o' m''
  same d = f.equation d ∙ sym (g.equation d)

  -- a list of numbers that is read off both ends
  both : (read : Ended → List ℕ) → read (ended o m') ≡ read (ended o' m'')
  both read = either (read (ended o m')) (read (ended o' m'')) (λ h. ap read (same (yes h))) (λ n. ap read (same (no n)))

  abbrev arena_from : List ℕ → DagArena
  arena_from [] = m.arena
  arena_from (x ∷ []) = m.arena
  arena_from (x ∷ y ∷ r) = record { count = x; size = y }

  pub one_run : OneRun o o' m' m''
  one_run =
      let outcomes = both (λ e. outcome_numbers e.outcome) in
      let words = both (λ e. e.memory.words) in
      let slots = both (λ e. e.memory.slots) in
      let arenas = ap arena_from (both (λ e. e.memory.arena.count ∷ e.memory.arena.size ∷ [])) in
      record {
        outcome = sym (back o) ∙ ap outcome_from outcomes ∙ back o';
        memory = λ i. memory (words i) (slots i) (arenas i);
      }

pub runs_one_way : RunsOneWay
runs_one_way bytes m m' m'' o o' f g = one_run bytes m m' m'' o o' f g

-- ---- on a fresh store

pub runs_fresh_one_way : RunsFreshOneWay
runs_fresh_one_way bytes words slots words' slots' words'' slots'' before r r' f g = by (not_opened bytes (lent words slots)) refl
  where
    by : (o : Option ℕ) → not_opened bytes (lent words slots) ≡ o → OneRun r.outcome r'.outcome (memory words' slots' r.arena) (memory words'' slots'' r'.arena)
    by (some number) e =
        let x = f.refused number e in
        let y = g.refused number e in
        record {
          outcome = ap (λ (z : Ran). z.outcome) (x.0 ∙ sym y.0);
          memory =
              let words_same = x.1 ∙ sym y.1 in
              let slots_same = x.2 ∙ sym y.2 in
              let ran_same = x.0 ∙ sym y.0 in
              λ i. memory (words_same i) (slots_same i) (ran_same i).arena;
        }
    by none e = one_run bytes (fresh_memory words slots) (memory words' slots' r.arena) (memory words'' slots'' r'.arena) r.outcome r'.outcome (f.runs e) (g.runs e)
