use Rattle.listing_lines.proofs.Spelling.{DecimalLeft}
use Rattle.listing_lines.proofs.digits.decimal_digits.Given as goal

abbrev pub invariant-loop-rest : goal.invariant-loop-rest
invariant-loop-rest l = DecimalLeft l.n l.bytes l.first l.rest

abbrev pub decreases-loop-rest : goal.decreases-loop-rest
decreases-loop-rest l = l.rest
