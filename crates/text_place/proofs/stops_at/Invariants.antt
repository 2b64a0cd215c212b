use Rattle.text_place.proofs.Reaching.{Begun}
use Rattle.text_place.proofs.stops_at.Given as goal

abbrev pub invariant-loop-i : goal.invariant-loop-i
invariant-loop-i l = Begun l.text l.progress l.i
