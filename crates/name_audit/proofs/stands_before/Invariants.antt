-- `name_audit::stands_before` meets its contract. The loop's invariant: every name from the place on differs; the place falls.
use Rattle.name_audit.proofs.Chains.{Walked}
use Rattle.name_audit.proofs.stands_before.Given as goal

abbrev pub invariant-loop-place : goal.invariant-loop-place
invariant-loop-place l = Walked l.entries l.number l.place

abbrev pub decreases-loop-place : goal.decreases-loop-place
decreases-loop-place l = l.place
