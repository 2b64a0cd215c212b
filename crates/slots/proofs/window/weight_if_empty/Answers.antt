-- `slots::window::weight_if_empty` meets its contract: an empty slot has the digit 1, another 0.
use native.Mathlib.Omega.{arith}
use Rattle.slots.proofs.EmptySlots.{weight_of_empty, weight_of_used}
use Rattle.slots.proofs.window.weight_if_empty.Goals as goal

pub returns-then-slot-eq0 : goal.returns-then-slot-eq0
returns-then-slot-eq0 c = (weight_of_empty _ _ c.if-slot-eq0.true, omega arith)

pub returns-else-slot-eq0 : goal.returns-else-slot-eq0
returns-else-slot-eq0 c = (weight_of_used _ _ c.if-slot-eq0.false, omega arith)
