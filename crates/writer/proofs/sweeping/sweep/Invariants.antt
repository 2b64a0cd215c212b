use Rattle.writer.proofs.Reached.{Swept}
use Rattle.writer.proofs.sweeping.sweep.Given as goal

abbrev pub invariant-loop-i : goal.invariant-loop-i
invariant-loop-i l = Swept l.formulas.nodes.now l.formulas.count l.formulas.entries.now l.formulas.named l.root l.reached l.i

abbrev pub decreases-loop-i : goal.decreases-loop-i
decreases-loop-i l = l.i
