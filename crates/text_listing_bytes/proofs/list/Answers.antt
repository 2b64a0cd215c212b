use Rattle.text_listing_bytes.proofs.Whole.{few_nodes, few_names, listed}
use borrow.Author.Rules.{rules}
use Rattle.text_listing_bytes.proofs.list.Goals as goal

pub lines-requires : goal.lines-requires
lines-requires c = let h = c.read_fresh-made.ensures in (h.sound.store.nodes, h.sound.names, few_nodes _ _ h.sound.store.nodes (search rules), few_names _ _ h.sound.names (search rules))

pub returns : goal.returns
returns c = listed _ _ _ _ _ _ _ _ _ _ c.read_fresh-made.ensures (search rules) (search rules) (search rules) _ c.place_of-place.ensures _ c.lines.ensures
