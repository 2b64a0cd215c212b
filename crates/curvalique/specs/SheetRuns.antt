-- A sheet's run in numbers.
use Rattle.std.specs.Prelude.{ℕ}
use Rattle.listing_lines.specs.declared.SheetOutcome.{SheetOutcome}
use Rattle.sheet.specs.declared.Ran.{Ran}
use Rattle.outputs.specs.Calls.{arena_of}

-- an outcome, and the counts behind pointers
abbrev pub sheet_ran : SheetOutcome → ℕ → ℕ → Ran
sheet_ran o count size = record { outcome = o; arena = arena_of count size }
