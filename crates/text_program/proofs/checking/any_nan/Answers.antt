use native.Mathlib.Omega.{arith}
use Rattle.text_program.proofs.Compiling.{fine_start, fine_found, fine_on, fine_end}
use Rattle.text_program.proofs.checking.any_nan.Goals as goal

pub loop-word-init : goal.loop-word-init
loop-word-init c = fine_start _ _ _

pub returns-then-nan_word : goal.returns-then-nan_word
returns-then-nan_word c = fine_found _ _ _ _ c.loop-word.invariant c.loop-word-test.true (omega arith) _ c.nan_word.ensures c.if-nan_word.true

pub loop-word-preserved : goal.loop-word-preserved
loop-word-preserved c = fine_on _ _ _ _ c.loop-word.invariant c.loop-word-test.true (omega arith) _ c.nan_word.ensures c.if-nan_word.false

pub returns : goal.returns
returns c = fine_end _ _ _ _ c.loop-word.invariant c.loop-word-test.false
