-- `hash::node_hash` meets its contract.
use Rattle.std.proofs.Common.{rules}
use Rattle.hash.specs.Fnv.{node_hash_of}
use Rattle.hash.proofs.Appending.{fnv_append}
use Rattle.hash.proofs.node_hash.Goals as goal

pub returns : goal.returns
unfolding node_hash_of
returns g c = rw fnv_append (cc)
