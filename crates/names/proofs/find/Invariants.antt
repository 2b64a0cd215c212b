-- `names::find` meets its contract. The loop's invariant: no entry passed is the key.
use Rattle.names.proofs.Finding.{NotBelow}
use Rattle.names.proofs.find.Given as goal

abbrev pub invariant-loop-i : goal.invariant-loop-i
invariant-loop-i l = NotBelow l.entries l.key l.i
