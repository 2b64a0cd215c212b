use Rattle.name_entries.specs.Sound.{names_of}
use mathlib.Core.Path.{◌≡◌, sym}
use lib.Seq.{length-take-le}
use lib.ListN.{length}
use native.Mathlib.Omega.{arith}
use Rattle.text_listing_bytes.proofs.NameLines.{name_short, take_few, name_is, name_line_is, room_for_name, room_for_feed}
use borrow.Author.Rules.{rules}
use Rattle.text_listing_bytes.proofs.naming.name_line.Goals as goal

pub slice_bounds-bytes-end : goal.slice_bounds-bytes-end
slice_bounds-bytes-end c = let l : length c.name-found.result.bytes ≡ 32 = search rules in let n = name_short _ _ _ c.name-found.result c.name-found.ensures _ c.name_length-length.ensures in omega (arith, n)

pub slice_bounds-with_bytes-end-3 : goal.slice_bounds-with_bytes-end-3
slice_bounds-with_bytes-end-3 c = let l : length c.name-found.result.bytes ≡ 32 = search rules in let n = name_short _ _ _ c.name-found.result c.name-found.ensures _ c.name_length-length.ensures in sym (length-take-le _ _ (omega (arith, n)))

pub with_bytes-named-requires : goal.with_bytes-named-requires
with_bytes-named-requires c = room_for_name _ _ _ _ _ c.new.ensures.long c.with_bytes.ensures.long c.with_number-numbered.ensures.long c.with_bytes-spaced.ensures.long (take_few c.name_length-length.result c.name-found.result.bytes (name_short _ _ _ c.name-found.result c.name-found.ensures _ c.name_length-length.ensures))

pub with_bytes-requires-2 : goal.with_bytes-requires-2
with_bytes-requires-2 c = room_for_feed _ _ _ _ _ _ c.new.ensures.long c.with_bytes.ensures.long c.with_number-numbered.ensures.long c.with_bytes-spaced.ensures.long c.with_bytes-named.ensures.long (take_few c.name_length-length.result c.name-found.result.bytes (name_short _ _ _ c.name-found.result c.name-found.ensures _ c.name_length-length.ensures))

pub returns : goal.returns
returns c = let args = c.args in name_line_is (names_of args.entries.now args.count) _ _ _ c.new.ensures c.with_bytes.ensures (rw c.from.ensures at c.with_number-numbered.ensures) c.with_bytes-spaced.ensures c.with_bytes-named.ensures (take_few c.name_length-length.result c.name-found.result.bytes (name_short _ _ _ c.name-found.result c.name-found.ensures _ c.name_length-length.ensures)) c.with_bytes-2.ensures (name_is _ _ _ c.name-found.result c.name-found.ensures _ c.name_length-length.ensures c.requires.0 c.requires.1)
