-- What sheets and listings refuse, over their contracts.
use Prim.Native.Nat.{ℕ}
use mathlib.Core.Path.{◌≡◌, refl, sym, ap, ap₂, subst, ◌∙◌}
use mathlib.Core.Bool.{Bool, true, false, cond}
use mathlib.Core.Option.{Option, none, some}
use mathlib.Core.List.{List, [], ◌∷◌, ◌++◌, append_assoc}
use lib.ListN.{drop}
use lib.Dec.{T}
use native.Mathlib.Omega.{arith}
use Rattle.arena.specs.declared.DagArena.{DagArena}
use Rattle.definitions.specs.Refusals.{bad_sheet, not_sound, no_slot_place}
use Rattle.definitions.specs.Intern.{Lent}
use Rattle.definitions.specs.Machine.{Answer, stored, simplified, pruned, refused, State, empty, fresh_refused}
use Rattle.definitions.specs.Sheet as Sheet
use Rattle.definitions.specs.Sheet.{sheet}
use Rattle.definitions.specs.Listing.{line_feed, last_of, first_line, node_lines, listing}
use Rattle.store.specs.View.{lent}
use Rattle.store.specs.Memory.{Memory, memory, model}
use Rattle.builder.specs.Opens.{fresh_memory}
use Rattle.records.specs.Reading.{is_sheet}
use Rattle.listing_lines.specs.declared.SheetOutcome.{SheetOutcome}
use Rattle.listing_lines.specs.declared.SheetOutcome.TheVariants.{Ok, Empty, Spent, Refused}
use Rattle.listing_lines.specs.Outcome.{answered_as, outcome_of, first_line_of}
use Rattle.listing_lines.proofs.Lines.{first_line_is}
use Rattle.sheet.specs.declared.Ran.{Ran}
use Rattle.sheet.specs.Sheets.{Ended, Runs, RunsFresh, not_opened}
use Rattle.listing_bytes.specs.Listed.{listing_lent, Listed}
use Rattle.refusals_listed.specs.Listed.{among}
use Rattle.refusals_listed.proofs.Called.{among_more, not_not}
use Rattle.public_calls.specs.Sheets.{sheet_refusals, RefusesAt, OutcomeOr, SheetListed, SheetsListed, FreshListed, FreshSheetsListed, ListingSays, ListingsSay}
use Rattle.public_calls.proofs.Sheets.{sheets_refuse_at}
use Rattle.public_calls.proofs.FreshMemory.{fresh_sound, fresh_lent}

-- the outcome of an answered sheet is no refusal
answered_no_refusal : (a : Answer) (number at : ℕ) → answered_as a ≡ Refused number at → ⊥
answered_no_refusal (stored i) number at e = let z : ◌≡◌ {A = ℕ} 0 1 = cc in omega arith
answered_no_refusal (simplified i false steps) number at e = let z : ◌≡◌ {A = ℕ} 0 1 = cc in omega arith
answered_no_refusal (simplified i true steps) number at e = let z : ◌≡◌ {A = ℕ} 0 1 = cc in omega arith
answered_no_refusal (pruned i kept dropped) number at e = let z : ◌≡◌ {A = ℕ} 0 1 = cc in omega arith
answered_no_refusal (refused r) number at e = let z : ◌≡◌ {A = ℕ} 0 1 = cc in omega arith

refused_by : (o : Option (ℕ × ℕ)) (al : List Answer) (number at : ℕ) → outcome_of o al ≡ Refused number at → o ≡ some (number, at)
refused_by (some r) al number at e =
    let p : r.0 ≡ number = cc in
    let q : r.1 ≡ at = cc in
    λ i. some (p i, q i)
refused_by none [] number at e = let z : ◌≡◌ {A = ℕ} 0 1 = cc in absurd (omega arith)
refused_by none (a ∷ al) number at e = absurd (answered_no_refusal (last_of a al) number at e)

-- the plain machine's outcome
outcome_refuses : (l : Lent) (s : State) (bytes : List ℕ) (number at : ℕ) → outcome_of (sheet l s bytes).refusal (sheet l s bytes).answers ≡ Refused number at
    → RefusesAt l s bytes number at × T (among number sheet_refusals)
outcome_refuses l s bytes number at e = sheets_refuse_at l s bytes number at (refused_by (sheet l s bytes).refusal (sheet l s bytes).answers number at e)

outcome_or : (l : Lent) (s : State) (bytes : List ℕ) (o : SheetOutcome) → outcome_of (sheet l s bytes).refusal (sheet l s bytes).answers ≡ o → OutcomeOr sheet_refusals o
outcome_or l s bytes (Ok i) e = tt
outcome_or l s bytes Empty e = tt
outcome_or l s bytes (Spent i) e = tt
outcome_or l s bytes (Refused number at) e = (outcome_refuses l s bytes number at e).1

-- ---- on any store

module _ (bytes : List ℕ) (m m' : Memory) (o : SheetOutcome) (h : Runs bytes m o m') where
  on_sound : (number at : ℕ) → model.Sound m → o ≡ Refused number at → RefusesAt (model.lent m) (model.view m) bytes number at × T (among number sheet_refusals)
  on_sound number at s e = outcome_refuses (model.lent m) (model.view m) bytes number at (sym (ap (λ (x : Ended). x.outcome) (h.equation (yes s))) ∙ e)

  listed : (p : SheetOutcome) → o ≡ p → OutcomeOr (not_sound ∷ sheet_refusals) p
  listed (Ok i) e = tt
  listed Empty e = tt
  listed (Spent i) e = tt
  listed (Refused number at) e = not_not (among number (not_sound ∷ sheet_refusals)) (λ out.
      let unsound : model.Sound m → ⊥ = λ s. out (among_more number not_sound sheet_refusals (on_sound number at s e).1) in
      let q : Refused number at ≡ Refused not_sound 0 = sym e ∙ ap (λ (x : Ended). x.outcome) (h.equation (no unsound)) in
      let p : number ≡ not_sound = cc in
      out (subst (λ (n : ℕ). T (among n (not_sound ∷ sheet_refusals))) (sym p) tt))

  pub sheet_listed : SheetListed bytes m o
  sheet_listed = record {
    listed = listed o refl;
    unsound = λ u. ap (λ (x : Ended). x.outcome) (h.equation (no u));
    sound = λ at s e. (on_sound not_sound at s e).1;
    refused = λ number at s e. (on_sound number at s e).0;
  }

pub sheets_listed : SheetsListed
sheets_listed bytes m m' o h = sheet_listed bytes m m' o h

-- ---- on a fresh store

module _ (bytes words slots words' slots' : List ℕ) (before : DagArena) (r : Ran) (h : RunsFresh bytes words slots before r words' slots') where
  -- why none is opened, from the two tests
  abbrev reason : Bool → Bool → Option ℕ
  reason a b = cond a (cond b (some no_slot_place) none) (some bad_sheet)

  start : (number : ℕ) → not_opened bytes (lent words slots) ≡ some number → r.outcome ≡ Refused number 0
  start number e = ap (λ (x : Ran). x.outcome) (h.refused number e).0

  none_sheet : is_sheet bytes ≡ false → r.outcome ≡ Refused bad_sheet 0
  none_sheet e = start bad_sheet (ap (λ (a : Bool). reason a (fresh_refused (lent words slots))) e)

  few_slots : is_sheet bytes ≡ true → fresh_refused (lent words slots) ≡ true → r.outcome ≡ Refused no_slot_place 0
  few_slots e f = start no_slot_place (ap₂ reason e f)

  opened : is_sheet bytes ≡ true → fresh_refused (lent words slots) ≡ false → (number at : ℕ) → r.outcome ≡ Refused number at
      → RefusesAt (lent words slots) empty bytes number at × T (among number sheet_refusals)
  opened e f number at q =
      let run = h.runs (ap₂ reason e f) in
      let fresh = fresh_sound words slots f in
      subst (λ (l : Lent). RefusesAt l empty bytes number at × T (among number sheet_refusals)) (fresh_lent words slots f)
      (subst (λ (s : State). RefusesAt (model.lent (fresh_memory words slots)) s bytes number at × T (among number sheet_refusals)) fresh.view
      (on_sound bytes (fresh_memory words slots) (memory words' slots' r.arena) r.outcome run number at fresh.sound q))

  never_20 : (at : ℕ) → r.outcome ≡ Refused not_sound at → ⊥
  never_20 at q = by (is_sheet bytes) (fresh_refused (lent words slots)) refl refl
    where
      by : (a b : Bool) → is_sheet bytes ≡ a → fresh_refused (lent words slots) ≡ b → ⊥
      by false b e f = let c : Refused bad_sheet 0 ≡ Refused not_sound at = sym (none_sheet e) ∙ q in let z : bad_sheet ≡ not_sound = cc in omega arith
      by true true e f = let c : Refused no_slot_place 0 ≡ Refused not_sound at = sym (few_slots e f) ∙ q in let z : no_slot_place ≡ not_sound = cc in omega arith
      by true false e f = (opened e f not_sound at q).1

pub fresh_sheets_listed : FreshSheetsListed
fresh_sheets_listed bytes words slots words' slots' before r h = record {
  is_no_sheet = none_sheet bytes words slots words' slots' before r h;
  no_slots = few_slots bytes words slots words' slots' before r h;
  refused = λ number at e f q. (opened bytes words slots words' slots' before r h e f number at q).0;
  never_20 = never_20 bytes words slots words' slots' before r h;
}

-- ---- the listing

pub listings_say : ListingsSay
unfolding listing
listings_say bytes before after r h =
    let p = sheet listing_lent empty bytes in
    record {
      outcome = outcome_of p.refusal p.answers;
      rest = node_lines 0 p.left.nodes ++ drop r before;
      first =
          h.is
          ∙ append_assoc (first_line p.refusal p.answers) (line_feed ∷ node_lines 0 p.left.nodes) (drop r before)
          ∙ ap (λ (x : List ℕ). x ++ line_feed ∷ (node_lines 0 p.left.nodes ++ drop r before)) (sym (first_line_is p.refusal p.answers));
      listed = outcome_or listing_lent empty bytes (outcome_of p.refusal p.answers) refl;
      refused = λ number at e. (outcome_refuses listing_lent empty bytes number at e).0;
    }
