use Rattle.encoding.proofs.SpelledBytes.{SpelledTo}
use Rattle.encoding.proofs.spelling.spell.Given as goal

abbrev pub invariant-loop-i : goal.invariant-loop-i
invariant-loop-i g l = SpelledTo g.row.N l.operands l.bytes l.i
