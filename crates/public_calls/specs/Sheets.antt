-- Sheets: which refusal a sheet may meet, at which record; and that one sheet on one memory leaves one memory.
use Rattle.std.specs.Prelude.{ℕ, ◌<◌, ◌≡◌, Bool, true, false, List, [], ◌∷◌, ◌++◌, T}
use Rattle.std.proofs.Math.Option.{Option, none, some}
use Rattle.arena.specs.declared.DagArena.{DagArena}
use Rattle.definitions.specs.Limits.{most_records}
use Rattle.definitions.specs.Refusals.{bad_sheet, bad_record, too_many_records, bad_operand, bad_code, not_a_number, bad_child_count, bad_threshold, too_many_terms, not_sound, no_slot_place}
use Rattle.definitions.specs.Intern.{Lent}
use Rattle.definitions.specs.Machine.{Call, refused, State, empty, fresh_refused, answers}
use Rattle.definitions.specs.Sheet.{sheet}
use Rattle.definitions.specs.SheetCalls.{sheet_calls}
use Rattle.definitions.specs.Controller.{asked}
use Rattle.definitions.specs.Promise.{nth}
use Rattle.definitions.specs.Listing.{line_feed}
use Rattle.store.specs.View.{lent}
use Rattle.store.specs.Memory.{Memory, memory, model}
use Rattle.builder.specs.Opens.{fresh_memory}
use Rattle.records.specs.Reading.{is_sheet}
use Rattle.listing_lines.specs.declared.SheetOutcome.{SheetOutcome}
use Rattle.listing_lines.specs.declared.SheetOutcome.TheVariants.{Ok, Empty, Spent, Refused}
use Rattle.listing_lines.specs.Outcome.{first_line_of}
use Rattle.sheet.specs.declared.Ran.{Ran}
use Rattle.sheet.specs.Sheets.{Runs, RunsFresh, not_opened}
use Rattle.listing_bytes.specs.Listed.{listing_lent, Listed}
use Rattle.refusals_listed.specs.Listed.{among, place_refusals, listed_refusals}

-- "1, then per record 3, 2, 5, 6, 4, 7, 23, 21, 22", and 10 "right after 5": no record prunes by a setting, so that 8 is not among
-- them
abbrev pub sheet_refusals : List ℕ
sheet_refusals =
    bad_sheet ∷ too_many_records ∷ bad_record ∷ bad_code ∷ not_a_number ∷ bad_child_count ∷ bad_operand ∷ bad_threshold ∷ too_many_terms ∷ place_refusals

-- On the plain machine, the number and the record of a refusal: 1 at 0 for bytes that are no sheet, 3 at record 1,024, 2 at an earlier one,
-- or what the call of an earlier record answers.
pub data RefusesAt (l : Lent) (s : State) (bytes : List ℕ) : ℕ → ℕ → Type 0 where
  no_sheet : is_sheet bytes ≡ false → RefusesAt l s bytes bad_sheet 0
  too_many : RefusesAt l s bytes too_many_records most_records
  malformed : {at : ℕ} → at < most_records → RefusesAt l s bytes bad_record at
  by_call : {number at : ℕ} (c : Call) → at < most_records
      → nth (sheet_calls l s bytes) at ≡ some c → nth (answers l s (sheet_calls l s bytes)) at ≡ some (refused number)
      → T (among number (listed_refusals (asked c))) → RefusesAt l s bytes number at

abbrev pub SheetsRefuseAt : Type 0
SheetsRefuseAt = (l : Lent) (s : State) (bytes : List ℕ) (number at : ℕ) → (sheet l s bytes).refusal ≡ some (number, at)
    → RefusesAt l s bytes number at × T (among number sheet_refusals)

-- ---- on any store

abbrev pub OutcomeOr : List ℕ → SheetOutcome → Type 0
OutcomeOr numbers (Ok id) = Unit {0}
OutcomeOr numbers Empty = Unit {0}
OutcomeOr numbers (Spent id) = Unit {0}
OutcomeOr numbers (Refused number at) = T (among number numbers)

pub record SheetListed (bytes : List ℕ) (m : Memory) (o : SheetOutcome) : Type 0 where
  pub listed : OutcomeOr (not_sound ∷ sheet_refusals) o
  -- 20, at record 0, exactly if the store is not sound
  pub unsound : (model.Sound m → ⊥) → o ≡ Refused not_sound 0
  pub sound : (at : ℕ) → model.Sound m → o ≡ Refused not_sound at → ⊥
  pub refused : (number at : ℕ) → model.Sound m → o ≡ Refused number at → RefusesAt (model.lent m) (model.view m) bytes number at

abbrev pub SheetsListed : Type 0
SheetsListed = (bytes : List ℕ) (m m' : Memory) (o : SheetOutcome) → Runs bytes m o m' → SheetListed bytes m o

-- ---- on a fresh store

-- 1 for bytes that are no sheet, then 22 for too few slots, both at record 0; else what the sheet meets on the fresh store, and never 20
pub record FreshListed (bytes words slots : List ℕ) (o : SheetOutcome) : Type 0 where
  pub is_no_sheet : is_sheet bytes ≡ false → o ≡ Refused bad_sheet 0
  pub no_slots : is_sheet bytes ≡ true → fresh_refused (lent words slots) ≡ true → o ≡ Refused no_slot_place 0
  pub refused : (number at : ℕ) → is_sheet bytes ≡ true → fresh_refused (lent words slots) ≡ false → o ≡ Refused number at
      → RefusesAt (lent words slots) empty bytes number at
  pub never_20 : (at : ℕ) → o ≡ Refused not_sound at → ⊥

abbrev pub FreshSheetsListed : Type 0
FreshSheetsListed = (bytes words slots words' slots' : List ℕ) (before : DagArena) (r : Ran)
    → RunsFresh bytes words slots before r words' slots' → FreshListed bytes words slots r.outcome

-- ---- the listing

-- the first line of a listing is that of an outcome, whose refusal, if it has one, is the sheet's
pub record ListingSays (bytes after : List ℕ) : Type 0 where
  pub outcome : SheetOutcome
  pub rest : List ℕ
  pub first : after ≡ first_line_of outcome ++ line_feed ∷ rest
  pub listed : OutcomeOr sheet_refusals outcome
  pub refused : (number at : ℕ) → outcome ≡ Refused number at → RefusesAt listing_lent empty bytes number at

abbrev pub ListingsSay : Type 0
ListingsSay = (bytes before after : List ℕ) (r : ℕ) → Listed bytes before r after → ListingSays bytes after

-- ---- one sheet on one memory

-- two runs have one outcome and leave one memory, sound or not
pub record OneRun (o o' : SheetOutcome) (m' m'' : Memory) : Type 0 where
  pub outcome : o ≡ o'
  pub memory : m' ≡ m''

abbrev pub RunsOneWay : Type 0
RunsOneWay = (bytes : List ℕ) (m m' m'' : Memory) (o o' : SheetOutcome) → Runs bytes m o m' → Runs bytes m o' m'' → OneRun o o' m' m''

abbrev pub RunsFreshOneWay : Type 0
RunsFreshOneWay = (bytes words slots words' slots' words'' slots'' : List ℕ) (before : DagArena) (r r' : Ran)
    → RunsFresh bytes words slots before r words' slots' → RunsFresh bytes words slots before r' words'' slots''
    → OneRun r.outcome r'.outcome (memory words' slots' r.arena) (memory words'' slots'' r'.arena)
