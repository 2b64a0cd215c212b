-- `name_entries::entry::at` meets its contract: the part of the lent bytes is the entry of the number.
use Rattle.name_entries.proofs.Entries.{entry_part}
use Rattle.name_entries.proofs.entry.at.Goals as goal

pub returns : goal.returns
returns c = entry_part _ _ c.requires
