use Rattle.listing_lines.proofs.Lines.{same_outcome, ok_line, spent_line, empty_line, refused_line}
use Rattle.listing_lines.proofs.first_line.Goals as goal

pub returns-in-Ok : goal.returns-in-Ok
returns-in-Ok c = same_outcome c.in-Ok.is (ok_line _ c.new.ensures c.with_number.ensures c.with_bytes-in-Ok.ensures c.with_bytes.ensures)

pub returns-in-Empty : goal.returns-in-Empty
returns-in-Empty c = same_outcome c.in-Empty.is (empty_line c.new-in-Empty.ensures c.with_bytes-in-Empty.ensures)

pub returns-in-Spent : goal.returns-in-Spent
returns-in-Spent c = same_outcome c.in-Spent.is (spent_line _ c.new-in-Spent.ensures c.with_number-in-Spent.ensures c.with_bytes-in-Spent-2.ensures c.with_bytes-in-Spent.ensures)

pub returns-in-Refused : goal.returns-in-Refused
returns-in-Refused c = same_outcome c.in-Refused.is (refused_line _ _ c.new-in-Refused.ensures c.with_bytes-in-Refused.ensures c.with_number-refused.ensures c.with_bytes-in-Refused-2.ensures c.with_number-in-Refused.ensures c.with_bytes-in-Refused-3.ensures)
