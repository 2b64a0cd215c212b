-- `slots::window::empties` meets its contract: a quarter is a digit to the base 16.
use borrow.Author.Rules.{rules}
use native.Mathlib.Omega.{arith}
use Rattle.slots.proofs.EmptySlots.{window_is}
use Rattle.slots.proofs.window.empties.Goals as goal

pub returns : goal.returns
returns c =
    let s = c.args in
    omega (arith, window_is s.slots.now s.home)
