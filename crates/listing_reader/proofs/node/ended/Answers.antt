-- `listing_reader::node::ended` meets its contract.
use mathlib.Core.Path.{sym, ◌∙◌}
use native.Mathlib.Omega.{arith}
use Rattle.listing_reader.proofs.Bytes.{byte_here}
use Rattle.listing_reader.proofs.ChildLines.{no_end, end_found}
use Rattle.listing_reader.proofs.node.ended.Goals as goal

pub returns-then-byte_at-ne-LINE_FEED : goal.returns-then-byte_at-ne-LINE_FEED
returns-then-byte_at-ne-LINE_FEED c = no_end c.byte_at.ensures c.if-byte_at-ne-LINE_FEED.true

pub overflow_add-result : goal.overflow_add-result
overflow_add-result c = let k = byte_here c.args.bytes.now c.args.at 10 (omega arith) (sym c.byte_at.ensures ∙ c.if-byte_at-ne-LINE_FEED.false) in omega arith

pub returns : goal.returns
returns c = end_found c.byte_at.ensures c.if-byte_at-ne-LINE_FEED.false
