-- No refusal of a sheet has the number 0, which says that every record was answered.
use Prim.Native.Nat.{ℕ, zero, suc}
use mathlib.Core.Path.{◌≡◌, refl, sym, ap, ap₂, ◌∙◌, subst}
use mathlib.Core.Bool.{Bool, true, false, ◌&&◌, cond}
use mathlib.Core.Option.{Option, none, some}
use mathlib.Core.List.{List, [], ◌∷◌, ◌++◌}
use native.Mathlib.Omega.{arith}
use lib.ListN.{length}
use lib.Dec.{leb, eqb}
use Rattle.definitions.specs.Limits.{most_sheet_bytes, most_records}
use Rattle.definitions.specs.Refusals.{bad_sheet, bad_record, not_sound, no_slot_place}
use Rattle.definitions.specs.Intern.{Lent}
use Rattle.definitions.specs.Machine as M
use Rattle.definitions.specs.Machine.{fresh_refused}
use Rattle.definitions.specs.Sheet as Sheet
use Rattle.definitions.specs.Listing.{last_of}
use Rattle.arena.specs.declared.DagArena.{DagArena}
use Rattle.store.specs.View.{lent}
use Rattle.store.specs.Memory.{Memory, model}
use Rattle.listing_lines.specs.declared.SheetOutcome.{SheetOutcome}
use Rattle.listing_lines.specs.declared.SheetOutcome.TheVariants.{Ok, Empty, Spent, Refused}
use Rattle.listing_lines.specs.Outcome.{answered_as, outcome_of}
use Rattle.sheet.specs.declared.Ran.{Ran}
use Rattle.records.specs.Reading.{is_sheet}
use Rattle.sheet.specs.Sheets.{Ended, Runs, not_opened, RunsFresh}
use Rattle.curvalique.specs.Kinds.{CallKind, kind_of}
use Rattle.curvalique.proofs.Refusals.{Numbered, plain_numbered}

-- ---- the plain machine's sheet

-- no refusal, or one with a number from 1 on
abbrev RefusalNumbered : Option (ℕ × ℕ) → Type 0
RefusalNumbered none = Unit {0}
RefusalNumbered (some r) = r.0 ≡ 0 → ⊥

abbrev RanNumbered : Sheet.Ran → Type 0
RanNumbered ran = RefusalNumbered ran.refusal

-- after a call
called_numbered : (al : List M.Answer) (st : M.State) (a : M.Answer) (k : CallKind) (more : Sheet.Ran) → Numbered a k → RanNumbered more → RanNumbered (elim (Sheet.refusal_of a) [ none ↦ more | some r ↦ Sheet.ran al (some (r, length al)) st ])
called_numbered al st (M.stored id) k more n h = h
called_numbered al st (M.simplified id spent steps) k more n h = h
called_numbered al st (M.pruned id kept dropped) k more n h = h
called_numbered al st (M.refused number) k more n h = n

records_numbered : (more : ℕ) (l : Lent) (al : List M.Answer) (st : M.State) (rest : List ℕ) → RanNumbered (Sheet.records more l al st rest)
unfolding Sheet.records
records_numbered zero l al st [] = tt
records_numbered zero l al st (b ∷ bs) = λ z. omega arith
records_numbered (suc more) l al st [] = tt
records_numbered (suc more) l al st (b ∷ bs) = by (Sheet.record_call (Sheet.cut (b ∷ bs))) (records_numbered more l)
  where
    by : (o : Option (M.Call × List ℕ)) → ((al' : List M.Answer) (st' : M.State) (rest' : List ℕ) → RanNumbered (Sheet.records more l al' st' rest'))
        → RanNumbered (elim o [
          | none ↦ Sheet.ran al (some (bad_record, length al)) st
          | some cr ↦
              let a = M.call l st (Sheet.call_on (Sheet.operand_id (length st.nodes) al) cr.0) in
              elim (Sheet.refusal_of a.answer) [ none ↦ Sheet.records more l (al ++ a.answer ∷ []) a.left cr.1 | some r ↦ Sheet.ran al (some (r, length al)) a.left ]
        ])
    by none h = λ z. omega arith
    by (some cr) h =
        let a = M.call l st (Sheet.call_on (Sheet.operand_id (length st.nodes) al) cr.0) in
        let next = Sheet.records more l (al ++ a.answer ∷ []) a.left cr.1 in
        called_numbered al a.left a.answer (kind_of (Sheet.call_on (Sheet.operand_id (length st.nodes) al) cr.0)) next (plain_numbered l st (Sheet.call_on (Sheet.operand_id (length st.nodes) al) cr.0)) (h (al ++ a.answer ∷ []) a.left cr.1)

sheet_numbered : (l : Lent) (st : M.State) (s : List ℕ) → RanNumbered (Sheet.sheet l st s)
unfolding Sheet.sheet
sheet_numbered l st [] = λ z. omega arith
sheet_numbered l st (v ∷ bs) = by (eqb v 1 && leb (length (v ∷ bs)) most_sheet_bytes)
  where
    by : (b : Bool) → RanNumbered (cond b (Sheet.records most_records l [] st bs) (Sheet.ran [] (some (bad_sheet, 0)) st))
    by true = records_numbered most_records l [] st bs
    by false = λ z. omega arith

-- ---- outcomes

abbrev OutcomeNumbered : SheetOutcome → Type 0
OutcomeNumbered (Ok id) = Unit {0}
OutcomeNumbered Empty = Unit {0}
OutcomeNumbered (Spent id) = Unit {0}
OutcomeNumbered (Refused number at) = number ≡ 0 → ⊥

answered_numbered : (a : M.Answer) → OutcomeNumbered (answered_as a)
answered_numbered (M.stored id) = tt
answered_numbered (M.simplified id true steps) = tt
answered_numbered (M.simplified id false steps) = tt
answered_numbered (M.pruned id kept dropped) = tt
answered_numbered (M.refused number) = tt

outcome_numbered : (refusal : Option (ℕ × ℕ)) (al : List M.Answer) → RefusalNumbered refusal → OutcomeNumbered (outcome_of refusal al)
outcome_numbered (some r) al n = n
outcome_numbered none [] n = tt
outcome_numbered none (a ∷ al) n = answered_numbered (last_of a al)

numbers_differ : (at : ℕ) → Refused 0 at ≡ Refused not_sound 0 → ⊥
numbers_differ at e = let z : ◌≡◌ {A = ℕ} 0 20 = cc in omega arith

-- a sheet on any store: where the store is not sound, the number is 20
pub runs_never_0 : (s : List ℕ) (m : Memory) (o : SheetOutcome) (m' : Memory) → Runs s m o m' → (at : ℕ) → o ≡ Refused 0 at → ⊥
runs_never_0 s m o m' h at e =
    let ran = Sheet.sheet (model.lent m) (model.view m) s in
    let is_unsound : model.Sound m → ⊥ =
    λ sound. subst OutcomeNumbered (sym (ap (λ (x : Ended). x.outcome) (h.equation (yes sound))) ∙ e) (outcome_numbered ran.refusal ran.answers (sheet_numbered (model.lent m) (model.view m) s)) refl in
    numbers_differ at (sym e ∙ ap (λ (x : Ended). x.outcome) (h.equation (no is_unsound)))

-- a sheet on a fresh store: where none is opened, the number is 1 or 22
pub fresh_never_0 : (s words slots : List ℕ) (before : DagArena) (r : Ran) (words' slots' : List ℕ) → RunsFresh s words slots before r words' slots' → (at : ℕ) → r.outcome ≡ Refused 0 at → ⊥
fresh_never_0 s words slots before r words' slots' h at e = by (is_sheet s) (fresh_refused (lent words slots)) refl refl
  where
    reason : {a b : Bool} → is_sheet s ≡ a → fresh_refused (lent words slots) ≡ b → not_opened s (lent words slots) ≡ cond a (cond b (some no_slot_place) none) (some bad_sheet)
    reason f g = ap₂ (λ (a b : Bool). cond a (cond b (some no_slot_place) none) (some bad_sheet)) f g

    refused_at : (number : ℕ) → not_opened s (lent words slots) ≡ some number → Refused 0 at ≡ Refused number 0
    refused_at number n = sym e ∙ ap (λ (x : Ran). x.outcome) (h.refused number n).0

    by : (a b : Bool) → is_sheet s ≡ a → fresh_refused (lent words slots) ≡ b → ⊥
    by false b f g = let d = refused_at bad_sheet (reason f g) in let z : ◌≡◌ {A = ℕ} 0 1 = cc in omega arith
    by true true f g = let d = refused_at no_slot_place (reason f g) in let z : ◌≡◌ {A = ℕ} 0 22 = cc in omega arith
    by true false f g = runs_never_0 _ _ _ _ (h.runs (reason f g)) at e
