use Prim.Native.Nat.{◌+◌, ◌*◌, ◌≤◌}
use mathlib.Core.Path.{◌≡◌}
use lib.ListN.{length, take}
use Rattle.listing_lines.specs.Line.{line_bytes}
use Rattle.listing_lines.proofs.Gathering.{Gathered}
use Rattle.listing_lines.proofs.all.all_lines.Given as goal

abbrev pub invariant-loop-id : goal.invariant-loop-id
invariant-loop-id l = (length l.out ≡ length l.initial.out) × ((l.count + 1) * line_bytes ≤ length l.out) × Gathered l.initial.at (take l.initial.at l.initial.out) l.nodes l.count l.initial.out l.out l.at l.id
