-- `table_line` meets its contract: the number that is computed is the table's. Assumes nothing.
use mathlib.Core.Path.{subst}
use mathlib.Core.List.{[], ◌∷◌, ◌++◌}
use Prim.Native.Nat.{ℕ}
use borrow.Author.Rules.{rules}
use Rattle.definitions.specs.Listing.{hex, line_feed}
use Rattle.listing_lines.specs.Line.{Holds}
use Rattle.settings_table.proofs.table_line.Goals as goal

pub returns : goal.returns
returns c = subst (λ (x : ℕ). Holds (hex x ++ (line_feed ∷ [])) c.hex_line.result) c.nearest_pattern.ensures.1 c.hex_line.ensures
