-- What reading the first line of a listing finds.
use Rattle.std.specs.Prelude.{ℕ, ◌<◌, ◌≡◌, List, ◌∷◌, ◌++◌, drop, Option, Some, None}
use Rattle.definitions.specs.Listing.{line_feed}
use Rattle.listing_lines.specs.declared.SheetOutcome.{SheetOutcome}
use Rattle.listing_lines.specs.declared.SheetOutcome.TheVariants.{Ok, Empty, Spent, Refused}
use Rattle.listing_lines.specs.Outcome.{first_line_of}
use Rattle.listing_reader.specs.declared.first.FirstLine.{FirstLine}
use Rattle.listing_reader.specs.Numbers.{word_end}

-- the numbers of an outcome are words of 64 bits
abbrev pub SmallOutcome : SheetOutcome → Type 0
SmallOutcome (Ok i) = i < word_end
SmallOutcome Empty = Unit {0}
SmallOutcome (Spent i) = i < word_end
SmallOutcome (Refused number at) = (number < word_end) × (at < word_end)

-- the line of an outcome stands first, and ends at the next place
pub record FirstAt (bytes : List ℕ) (o : SheetOutcome) (next : ℕ) : Type 0 where
  pub text : bytes ≡ first_line_of o ++ line_feed ∷ drop next bytes
  pub small : SmallOutcome o

-- no first line
abbrev pub NoFirst : List ℕ → Type 0
NoFirst bytes = (o : SheetOutcome) (rest : List ℕ) → SmallOutcome o → bytes ≡ first_line_of o ++ line_feed ∷ rest → ⊥

-- an outcome, and the place after its line
abbrev pub first_read : SheetOutcome → ℕ → FirstLine
first_read o next = record { outcome = o; next = next }

pub record ReadsFirst (bytes : List ℕ) (r : Option FirstLine) : Type 0 where
  pub found : (o : SheetOutcome) (next : ℕ) → r ≡ Some (first_read o next) → FirstAt bytes o next
  pub nothing : r ≡ None → NoFirst bytes

-- a refusal's first line is found where it stands
pub record ReadsRefused (bytes : List ℕ) (r : Option FirstLine) : Type 0 where
  pub found : (o : SheetOutcome) (next : ℕ) → r ≡ Some (first_read o next) → FirstAt bytes o next
  pub nothing : r ≡ None → (number at : ℕ) (rest : List ℕ) → SmallOutcome (Refused number at) → bytes ≡ first_line_of (Refused number at) ++ line_feed ∷ rest → ⊥
