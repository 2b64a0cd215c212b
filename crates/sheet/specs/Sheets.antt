-- What running a sheet says of the memory before it, its outcome and the memory after it.
use Rattle.std.specs.Prelude.{ℕ, ◌≡◌, false, cond, List}
use Rattle.std.proofs.Math.Option.{Option, none, some}
use Rattle.arena.specs.Nodes.{Nodes}
use Rattle.arena.specs.declared.DagArena.{DagArena}
use Rattle.definitions.specs.Refusals.{bad_sheet, not_sound, no_slot_place}
use Rattle.definitions.specs.Intern.{Lent}
use Rattle.definitions.specs.Machine.{empty, fresh_refused}
use Rattle.definitions.specs.Sheet.{sheet}
use Rattle.definitions.specs.Listing as Listing
use Rattle.store.specs.View.{lent}
use Rattle.store.specs.Memory.{Memory, memory, model, memory_after}
use Rattle.builder.specs.Opens.{fresh_memory}
use Rattle.records.specs.Reading.{is_sheet}
use Rattle.listing_lines.specs.declared.SheetOutcome.{SheetOutcome}
use Rattle.listing_lines.specs.declared.SheetOutcome.TheVariants.{Refused}
use Rattle.listing_lines.specs.Outcome.{outcome_of, all_lines}
use Rattle.sheet.specs.declared.Ran.{Ran}

-- ---- on any store

abbrev pub refused_at_start : ℕ → DagArena → Ran
refused_at_start number arena = record { outcome = Refused number 0; arena = arena }

-- an outcome, and the memory after it
pub record Ended : Type 0 where
  pub outcome : SheetOutcome
  pub memory : Memory

abbrev pub ended : SheetOutcome → Memory → Ended
ended outcome memory = record { outcome = outcome; memory = memory }

-- "20, 1, then per record ..": 20 at 0 and the same memory where the store is not sound, else the plain machine's outcome and the memory
-- that its nodes give.
abbrev pub ended_by : (s : List ℕ) (m : Memory) → Dec (model.Sound m) → Ended
ended_by s m (yes h) =
    ended (outcome_of (sheet (model.lent m) (model.view m) s).refusal (sheet (model.lent m) (model.view m) s).answers)
    (memory_after m (sheet (model.lent m) (model.view m) s).left.nodes)
ended_by s m (no n) = ended (Refused not_sound 0) m

-- A sheet: one equation for its outcome and the memory, which has the plain machine's nodes, is sound again and as large as before.
pub record Runs (s : List ℕ) (m : Memory) (o : SheetOutcome) (m' : Memory) : Type 0 where
  pub equation : (d : Dec (model.Sound m)) → ended o m' ≡ ended_by s m d
  pub left : model.Sound m → model.view m' ≡ (sheet (model.lent m) (model.view m) s).left
  -- the lines of the outcome and of the nodes, joined, are the listing of the plain machine's result
  pub listing : model.Sound m → all_lines o m'.words m'.arena.count ≡ Listing.listing (sheet (model.lent m) (model.view m) s)
  pub sound : model.Sound m → model.Sound m'
  pub same_lent : model.lent m' ≡ model.lent m
  -- 1 changes nothing
  pub unchanged : is_sheet s ≡ false → m' ≡ m

-- ---- on a fresh store

-- why no store is opened: 1, then 22 "also a fresh store with under 64"
abbrev pub not_opened : List ℕ → Lent → Option ℕ
not_opened s l = cond (is_sheet s) (cond (fresh_refused l) (some no_slot_place) none) (some bad_sheet)

-- 1 and 22 change nothing, and the counts are those handed in; else the sheet on the fresh store, and the listing that 01 asks for
pub record RunsFresh (s words slots : List ℕ) (before : DagArena) (r : Ran) (words' slots' : List ℕ) : Type 0 where
  pub refused : (number : ℕ) → not_opened s (lent words slots) ≡ some number → (r ≡ refused_at_start number before) × (words' ≡ words) × (slots' ≡ slots)
  pub runs : not_opened s (lent words slots) ≡ none → Runs s (fresh_memory words slots) r.outcome (memory words' slots' r.arena)
  -- where the counts handed in are those of no nodes: the lines of all nodes are the listing, and can be asked for
  pub listing : fresh_refused (lent words slots) ≡ false → before.count ≡ 0 → all_lines r.outcome words' r.arena.count ≡ Listing.listing (sheet (lent words slots) empty s)
  pub nodes : before.count ≡ 0 → Nodes words' r.arena.count
