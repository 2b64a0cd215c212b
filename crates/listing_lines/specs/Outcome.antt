-- What a sheet's result says in its first line, and the listing by lines.
use Rattle.std.specs.Prelude.{ℕ, zero, suc, true, false, List, [], ◌∷◌, ◌++◌}
use Rattle.std.proofs.Math.Option.{Option, none, some}
use Rattle.definitions.specs.Machine.{Answer, stored, simplified, pruned, refused}
use Rattle.definitions.specs.Node.{Node, at}
use Rattle.definitions.specs.Listing.{line_feed, last_of, first_line, node_line}
use Rattle.store.specs.View.{nodes_in}
use Rattle.listing_lines.specs.declared.SheetOutcome.{SheetOutcome}
use Rattle.listing_lines.specs.declared.SheetOutcome.TheVariants.{Ok, Empty, Spent, Refused}

-- the outcome of a last answer
abbrev pub answered_as : Answer → SheetOutcome
answered_as (stored i) = Ok i
answered_as (simplified i false steps) = Ok i
answered_as (simplified i true steps) = Spent i
answered_as (pruned i kept dropped) = Ok i
answered_as (refused r) = Empty

-- the outcome of a sheet, from the refusal that cut it short and its answers
abbrev pub outcome_of : Option (ℕ × ℕ) → List Answer → SheetOutcome
outcome_of (some r) al = Refused r.0 r.1
outcome_of none [] = Empty
outcome_of none (a ∷ al) = answered_as (last_of a al)

-- 01's first line for each outcome
unfoldable pub first_line_of : SheetOutcome → List ℕ
unfolding first_line
first_line_of (Ok i) = first_line none (stored i ∷ [])
first_line_of Empty = first_line none []
first_line_of (Spent i) = first_line none (simplified i true 0 ∷ [])
first_line_of (Refused number at) = first_line (some (number, at)) []

-- the line of an id, with its line feed
abbrev pub line_of : List Node → ℕ → List ℕ
line_of ns i = node_line i (at ns i) ++ (line_feed ∷ [])

-- the lines of so many ids from one on, joined
unfoldable pub joined : (ℕ → List ℕ) → ℕ → ℕ → List ℕ
joined line zero i = []
joined line (suc n) i = line i ++ joined line n (suc i)

-- the first line, then the line of each id from 0 up to the count
abbrev pub all_lines : SheetOutcome → List ℕ → ℕ → List ℕ
all_lines o words count = (first_line_of o ++ (line_feed ∷ [])) ++ joined (line_of (nodes_in words count)) count 0
