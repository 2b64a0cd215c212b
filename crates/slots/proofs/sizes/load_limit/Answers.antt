-- `slots::sizes::load_limit` meets its contract: a size is a multiple of 64.
use Prim.Native.Nat.{ℕ, ◌*◌, ◌^◌}
use mathlib.Core.Path.{◌≡◌}
use native.Mathlib.Omega.{arith}
use borrow.Author.Rules.{rules}
use Rattle.slots.proofs.sizes.load_limit.Goals as goal

pub returns : goal.returns
returns c = let e = c.requires.is in omega arith
