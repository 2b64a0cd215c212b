use Rattle.text_program.proofs.Digits.{Counting}
use Rattle.text_program.proofs.numbers.digits_at.Given as goal

abbrev pub invariant-loop-count : goal.invariant-loop-count
invariant-loop-count l = Counting l.text l.from l.radix l.most l.value l.count
