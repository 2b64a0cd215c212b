use Rattle.writer.proofs.InFront.{DecimalsLeft}
use Rattle.writer.proofs.numerals.put_decimal.Given as goal

abbrev pub invariant-loop-rest : goal.invariant-loop-rest
invariant-loop-rest l = DecimalsLeft l.n l.at l.initial.out l.out l.place l.rest

abbrev pub decreases-loop-rest : goal.decreases-loop-rest
decreases-loop-rest l = l.place
