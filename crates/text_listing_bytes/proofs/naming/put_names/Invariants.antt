use mathlib.Core.Path.{◌≡◌}
use lib.ListN.{length}
use Rattle.name_entries.specs.Sound.{names_of}
use Rattle.text_listing_bytes.specs.Names.{name_line}
use Rattle.text_listing_bytes.proofs.NameLines.{Written}
use Rattle.text_listing_bytes.proofs.naming.put_names.Given as goal

abbrev pub invariant-loop-i : goal.invariant-loop-i
invariant-loop-i l = (length l.out ≡ length l.initial.out) × Written (name_line (names_of l.entries l.count)) l.count l.initial.out l.at l.out l.place l.i
