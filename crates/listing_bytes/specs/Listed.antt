-- The listing of a sheet on a fresh store of 512 nodes and 1,024 slots, as the listing program has it.
use Rattle.std.specs.Prelude.{ℕ, ◌≤◌, ◌≡◌, List, ◌++◌, length, drop}
use Rattle.definitions.specs.Intern.{Lent}
use Rattle.definitions.specs.Machine.{empty}
use Rattle.definitions.specs.Sheet.{sheet}
use Rattle.definitions.specs.Listing.{listing}

-- how many nodes and slots the listing's store has
abbrev pub listing_lent : Lent
listing_lent = record { nodes = 512; slots = 1024 }

-- an array starts with the listing of the sheet's result, of so many bytes, and its other bytes stay
pub record Listed (s before : List ℕ) (r : ℕ) (after : List ℕ) : Type 0 where
  pub is : after ≡ listing (sheet listing_lent empty s) ++ drop r before
  pub long : r ≡ length (listing (sheet listing_lent empty s))
  pub within : r ≤ length after
