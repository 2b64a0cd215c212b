use native.Mathlib.Omega.{arith}
use borrow.Author.Rules.{rules}
use Rattle.text.proofs.Running.{running_start, running_end, running_stopped, running_room, running_on}
use Rattle.text.proofs.making.run_program.Goals as goal

pub loop-word-init : goal.loop-word-init
loop-word-init c = record { runs = running_start _ _ _ _ _ c.requires.sound c.requires.fits (search rules); nodes = search rules; slots = search rules; entries = search rules }

pub returns-in_default : goal.returns-in_default
returns-in_default c = running_stopped _ _ _ _ _ _ _ _ c.loop-word.invariant.runs c.loop-word-test.true (omega arith) _ _ c.waiting-first.ensures c.waiting-second.ensures _ _ c.perform-made.ensures _ c.in_default.is

pub overflow_sub-place : goal.overflow_sub-place
overflow_sub-place c = (running_room _ _ _ _ _ _ _ _ c.loop-word.invariant.runs c.loop-word-test.true (omega arith) _ _ c.waiting-first.ensures c.waiting-second.ensures _ _ c.perform-made.ensures _ (c.operand_count.ensures _)).0

pub bounds-stack-place : goal.bounds-stack-place
bounds-stack-place c = let w = c.loop-word.invariant.runs.wide in let k = (running_room _ _ _ _ _ _ _ _ c.loop-word.invariant.runs c.loop-word-test.true (omega arith) _ _ c.waiting-first.ensures c.waiting-second.ensures _ _ c.perform-made.ensures _ (c.operand_count.ensures _)).1 in omega (arith, w, k)

pub loop-word-preserved : goal.loop-word-preserved
loop-word-preserved c = record { runs = running_on _ _ _ _ _ _ _ _ c.loop-word.invariant.runs c.loop-word-test.true (omega arith) _ _ c.waiting-first.ensures c.waiting-second.ensures _ _ c.perform-made.ensures _ _ c.in-Id.is (c.operand_count.ensures _); nodes = search rules; slots = search rules; entries = search rules }

pub returns : goal.returns
returns c = rw c.from.ensures (running_end _ _ _ _ _ _ _ _ c.loop-word.invariant.runs c.loop-word-test.false _ c.waiting-last.ensures (search rules))
