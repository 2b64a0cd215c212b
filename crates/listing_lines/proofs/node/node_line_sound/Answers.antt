use Rattle.listing_lines.proofs.Lines.{node_line_lem}
use Rattle.listing_lines.proofs.node.node_line_sound.Goals as goal

pub returns : goal.returns
returns c =
    node_line_lem _ _ _ _ _ c.new.ensures c.with_decimal-named.ensures c.with_number-of_kind.ensures c.with_payload-of_payload.ensures c.with_number-flagged.ensures c.with_children-whole.ensures c.with_bytes.ensures
    c.kind.ensures c.payload.ensures c.all_flags.ensures
