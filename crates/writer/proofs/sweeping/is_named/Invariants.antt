use Rattle.writer.proofs.Reached.{Wording}
use Rattle.writer.proofs.sweeping.is_named.Given as goal

abbrev pub invariant-loop-j : goal.invariant-loop-j
invariant-loop-j l = Wording l.entries l.named l.symbol l.start l.size l.j
