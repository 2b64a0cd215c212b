use mathlib.Core.Path.{sym}
use Rattle.text.proofs.Running.{stack_at, stack_none}
use Rattle.text.proofs.making.waiting.Goals as goal

pub returns-then-back-height : goal.returns-then-back-height
returns-then-back-height c = sym (stack_at _ _ _ c.if-back-height.true)

pub returns-else-back-height : goal.returns-else-back-height
returns-else-back-height c = sym (stack_none _ _ _ c.if-back-height.false)
