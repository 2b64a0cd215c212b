-- The calls' contracts, one after another.
use Rattle.std.specs.Prelude.{Option, Some, Result, Err}
use Rattle.write_back.specs.declared.Written.{Written}
use Prim.Native.Nat.{ℕ}
use mathlib.Core.Path.{◌≡◌, sym, ap, ◌∙◌, subst}
use mathlib.Core.Bool.{Bool}
use mathlib.Core.List.{List}
use lib.Dec.{ltb}
use Rattle.definitions.specs.Machine as M
use Rattle.definitions.specs.Walk.{standard}
use Rattle.definitions.specs.Beside.{beside}
use Rattle.store.specs.declared.NodeAnswer as Store
use Rattle.store.specs.declared.NodeAnswer.TheVariants as store
use Rattle.store.specs.Memory.{Memory, model, Leaves}
use Rattle.names.specs.Memory.{name_model}
use Rattle.text.specs.Memory.{ControllerMemory}
use Rattle.text.specs.Reading.{ReadsText}
use Rattle.std.specs.Prelude.{Result, Ok, Err}
use Rattle.refusal.specs.declared.Refusal.{Refusal}
use Rattle.refusal.specs.Number.{number_of}
use Rattle.runs.specs.declared.Simplified as Walk
use Rattle.runs.specs.Answers as WalkAnswers
use Rattle.pruner.specs.declared.Pruned as Prune
use Rattle.pruner.specs.Answers as PruneAnswers
use Rattle.writer.specs.Answers as Write
use Rattle.writer.specs.Writing.{Writes}
use Rattle.write_back.specs.Ids.{id_of}
use Rattle.write_back.specs.Answers.{depth_limit, ample_budget, FormulaPruned, by, outcome_of, FinishesFormula, unpruned, finished, Simplifies, unsimplified, walked, Answers, unread, read}

-- ---- the prune

pub pruned_by : {pruning : Option ℕ} {m : Memory} (id i setting : ℕ) {a : Result Prune.Pruned Refusal} {m' : Memory} → pruning ≡ Some setting → i ≡ id_of id
    → Leaves (M.prune_by_setting i setting) m (PruneAnswers.meaning a) m' → FormulaPruned pruning m id a m'
pruned_by {pruning} {m} id i setting {a} {m'} e q h = by e (subst (λ (x : ℕ). Leaves (M.prune_by_setting x setting) m (PruneAnswers.meaning a) m') q h)

-- ---- the prune and the write

module _ (pruning : Option ℕ) (steps : ℕ) (spent deep : Bool) (m : ControllerMemory) (id : ℕ) (buffer : List ℕ) {a : Result Prune.Pruned Refusal} {s : Memory} (p : FormulaPruned pruning m.store id a s) where
  abbrev after : ControllerMemory
  after = beside model name_model s m.names

  pub prune_refused : (refusal : Refusal) → a ≡ Err refusal → (number : ℕ) → number ≡ number_of refusal
      → FinishesFormula pruning steps spent deep m id buffer (Err number) after buffer
  prune_refused refusal e number n =
      subst (λ (x : ℕ). FinishesFormula pruning steps spent deep m id buffer (Err x) after buffer) (sym n)
      (unpruned (subst (λ (x : Result Prune.Pruned Refusal). FormulaPruned pruning m.store id x s) e p))

  pub prune_written : (i kept dropped j : ℕ) → a ≡ Ok (record { id = i; kept = kept; dropped = dropped }) → j ≡ id_of i → (w w' : Write.WriteAnswer) {buffer' : List ℕ} → w ≡ w'
      → Writes after j buffer w buffer' → FinishesFormula pruning steps spent deep m id buffer (outcome_of w' steps spent deep kept dropped) after buffer'
  prune_written i kept dropped j e q w w' {buffer'} f h =
      finished (subst (λ (x : Result Prune.Pruned Refusal). FormulaPruned pruning m.store id x s) e p)
      (subst (λ (x : Write.WriteAnswer). Writes after (id_of i) buffer x buffer') f
      (subst (λ (x : ℕ). Writes after x buffer w buffer') q h))

-- ---- the walk

module _ (pruning : Option ℕ) (m : ControllerMemory) (id i : ℕ) (buffer : List ℕ) (q : i ≡ id_of id) (a : Result Walk.Simplified Refusal) {s : Memory} (h : Leaves (M.simplify standard i depth_limit ample_budget) m.store (WalkAnswers.meaning a) s) where
  walks : (b : M.Answer) → WalkAnswers.meaning a ≡ b → Leaves (M.simplify standard (id_of id) depth_limit ample_budget) m.store b s
  walks b e =
      subst (λ (x : M.Answer). Leaves (M.simplify standard (id_of id) depth_limit ample_budget) m.store x s) e
      (subst (λ (x : ℕ). Leaves (M.simplify standard x depth_limit ample_budget) m.store (WalkAnswers.meaning a) s) q h)

  pub walk_refused : (refusal : Refusal) → a ≡ Err refusal → (number : ℕ) → number ≡ number_of refusal
      → Simplifies pruning m id buffer (Err number) (beside model name_model s m.names) buffer
  walk_refused refusal e number n = unsimplified (walks (M.refused number) (ap WalkAnswers.meaning e ∙ ap M.refused (sym n)))

  pub walk_ended : (j steps : ℕ) (spent deep : Bool) → a ≡ Ok (record { id = j; spent = spent; steps = steps }) → deep ≡ ltb depth_limit i
      → {o : Result Written ℕ} {m' : ControllerMemory} {buffer' : List ℕ}
      → FinishesFormula pruning steps spent deep (beside model name_model s m.names) j buffer o m' buffer' → Simplifies pruning m id buffer o m' buffer'
  walk_ended j steps spent deep e d {o} {m'} {buffer'} k =
      walked (walks (M.simplified j spent steps) (ap WalkAnswers.meaning e))
      (subst (λ (x : Bool). FinishesFormula pruning steps spent x (beside model name_model s m.names) j buffer o m' buffer') (d ∙ ap (ltb depth_limit) q) k)

-- ---- the reading

module _ (typed : List ℕ) (pruning : Option ℕ) (d : ControllerMemory) (buffer : List ℕ) {a : Store.NodeAnswer} {d' : ControllerMemory} (h : ReadsText typed d a d') where
  reads : (b : Store.NodeAnswer) → a ≡ b → ReadsText typed d b d'
  reads b e = subst (λ (x : Store.NodeAnswer). ReadsText typed d x d') e h

  pub read_refused : (number : ℕ) → a ≡ store.Refused number → Answers typed pruning d buffer (Err number) d' buffer
  read_refused number e = unread (reads (store.Refused number) e)

  pub read_ended : (id : ℕ) → a ≡ store.Id id → {o : Result Written ℕ} {m' : ControllerMemory} {buffer' : List ℕ} → Simplifies pruning d' id buffer o m' buffer'
      → Answers typed pruning d buffer o m' buffer'
  read_ended id e k = read (reads (store.Id id) e) k
