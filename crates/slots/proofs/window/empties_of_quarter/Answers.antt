-- `slots::window::empties_of_quarter` meets its contract: the weights are those of binary digits.
use borrow.Author.Rules.{rules}
use native.Mathlib.Omega.{arith}
use Rattle.slots.proofs.EmptySlots.{quarter_is}
use Rattle.slots.proofs.window.empties_of_quarter.Goals as goal

pub returns : goal.returns
returns c =
    let s = c.args in
    (omega (arith, quarter_is s.slots.now s.from), omega arith)
