-- `hash::start` meets its contract.
use Rattle.std.proofs.Common.{rules}
use Rattle.hash.specs.Fnv.{fnv_from}
use Rattle.hash.proofs.start.Goals as goal

pub returns : goal.returns
unfolding fnv_from
returns c = cc
