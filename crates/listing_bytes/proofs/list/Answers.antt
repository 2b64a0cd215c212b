use mathlib.Core.Path.{refl}
use Rattle.listing_bytes.proofs.Bytes.{room}
use borrow.Author.Rules.{rules}
use Rattle.listing_bytes.proofs.list.Goals as goal

pub all_lines-requires : goal.all_lines-requires
all_lines-requires c = (c.run_fresh-ran.ensures.nodes refl, room _ _ _ (c.run_fresh-ran.ensures.nodes refl) (search rules) (search rules))
