-- `slots::filling::node_hash_at` meets its contract.
use mathlib.Core.Path.{refl}
use borrow.Author.Rules.{rules}
use Rattle.arena.specs.Node.{node_at}
use Rattle.slots.proofs.filling.node_hash_at.Goals as goal

pub returns : goal.returns
unfolding node_at
returns c = refl
