-- `slots::window::first_empty` meets its contract: the trailing zeros of the digits, below one digit that is 1, are the slots before the first empty one.
use Prim.Native.Nat.{◌+◌}
use native.Mathlib.Omega.{arith}
use borrow.Author.Rules.{rules}
use lib.Count.{trailing_le}
use Rattle.slots.specs.Window.{window_values}
use Rattle.slots.proofs.EmptySlots.{window_below, first_empty_is}
use Rattle.slots.proofs.window.first_empty.Goals as goal

pub overflow_add-result : goal.overflow_add-result
overflow_add-result c = let e = c.empties.ensures in let l = window_below c.args.slots.now c.args.home in search rules

pub overflow_cast-result : goal.overflow_cast-result
overflow_cast-result c = omega (arith, trailing_le 32 (c.empties.result + window_values))

pub returns : goal.returns
returns c = first_empty_is _ _ _ c.empties.ensures
