-- The reader of a listing: what it refuses, and that it reads one listing one way.
use Rattle.std.specs.Prelude.{ℕ, ◌+◌, ◌*◌, ◌≤◌, ◌<◌, ◌≡◌, List, length}
use Rattle.arena.specs.Layout.{node_words, most_nodes}
use Rattle.listing_lines.specs.declared.SheetOutcome.{SheetOutcome}
use Rattle.listing_reader.specs.declared.ListingAnswer.{ListingAnswer}
use Rattle.listing_reader.specs.declared.ListingAnswer.TheVariants.{Read, Refused, Full}
use Rattle.listing_reader.specs.Listing.{IsListing, ListingReading}

-- no listing is refused; the line of a refusal is one of those that a listing may have, or the one after them; and there is place for every
-- listing where 65,536 nodes have place
pub record ReaderRefuses (bytes before : List ℕ) (r : ListingAnswer) : Type 0 where
  pub no_listing : (o : SheetOutcome) (words : List ℕ) (count line : ℕ) → IsListing bytes o words count → r ≡ Refused line → ⊥
  pub first_line : (line : ℕ) → r ≡ Refused line → 1 ≤ line
  pub last_line : (line : ℕ) → r ≡ Refused line → line ≤ most_nodes + 2
  pub no_place : r ≡ Full → length before < most_nodes * node_words

abbrev pub ReadersRefuse : Type 0
ReadersRefuse = (bytes before after : List ℕ) (r : ListingAnswer) → ListingReading bytes before r after → ReaderRefuses bytes before r

-- two readings of the same bytes into the same words have one answer, and leave the same words
abbrev pub ReadsListingOneWay : Type 0
ReadsListingOneWay = (bytes before after after' : List ℕ) (r r' : ListingAnswer) → ListingReading bytes before r after → ListingReading bytes before r' after'
    → (r ≡ r') × (after ≡ after')
