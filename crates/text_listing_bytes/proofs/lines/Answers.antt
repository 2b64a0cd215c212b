use Rattle.text_listing_bytes.proofs.Whole.{room_for_nodes, room_for_names, lines_in}
use borrow.Author.Rules.{rules}
use Rattle.text_listing_bytes.proofs.lines.Goals as goal

pub all_lines-nodes_end-requires : goal.all_lines-nodes_end-requires
all_lines-nodes_end-requires c = (c.requires.0, room_for_nodes _ _ c.requires.2 (search rules))

pub put_names-length-requires : goal.put_names-length-requires
put_names-length-requires c = (c.requires.1, room_for_names _ _ _ _ c.all_lines-nodes_end.ensures.at_most_full c.requires.2 c.requires.3 (search rules))

pub returns : goal.returns
returns c = lines_in _ _ _ _ _ _ _ _ _ _ _ c.outcome_of.ensures c.all_lines-nodes_end.ensures.fills c.put_names-length.ensures.puts_line c.put_names-length.ensures.in_array
