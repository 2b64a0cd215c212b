-- `listing_reader::read` meets its contract.
use mathlib.Core.Path.{refl}
use Rattle.listing_reader.proofs.Listings.{no_first}
use Rattle.listing_reader.proofs.read.Goals as goal

pub returns-in_default : goal.returns-in_default
returns-in_default c = no_first _ _ (c.first_line.ensures.nothing c.in_default.is)

pub node_lines-requires : goal.node_lines-requires
node_lines-requires c = c.in-Some.ensures.found _ _ refl
