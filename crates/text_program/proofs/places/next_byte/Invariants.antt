use Rattle.text_language.proofs.Place.{Skipped}
use Rattle.text_program.proofs.places.next_byte.Given as goal

abbrev pub invariant-loop-at : goal.invariant-loop-at
invariant-loop-at l = Skipped l.text l.from l.at
