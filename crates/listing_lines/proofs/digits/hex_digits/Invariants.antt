use Rattle.listing_lines.proofs.Spelling.{HexLeft}
use Rattle.listing_lines.proofs.digits.hex_digits.Given as goal

abbrev pub invariant-loop-first : goal.invariant-loop-first
invariant-loop-first l = HexLeft l.n l.bytes l.first l.rest

abbrev pub decreases-loop-first : goal.decreases-loop-first
decreases-loop-first l = l.first
