use Rattle.std.specs.Prelude.{length}
use Rattle.text_program.proofs.Compiling.{Fine}
use Rattle.text_program.proofs.checking.any_nan.Given as goal

abbrev pub invariant-loop-word : goal.invariant-loop-word
invariant-loop-word l = Fine l.text l.program (length l.program) l.word-index
