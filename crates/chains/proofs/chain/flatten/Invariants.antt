-- `chains::chain::flatten` meets its contract. The measure is the weight of the ids that wait and of the id at hand,
-- and whether a distance is still to be noted. Assumes nothing.
use Prim.Native.Nat.{◌+◌, ◌*◌}
use lib.Ieee.{binary64, of_bits}
use Rattle.definitions.specs.Prune.{keeps}
use Rattle.store.specs.View.{nodes_in}
use Rattle.chains.proofs.Stepping.{late}
use Rattle.chains.proofs.Flattening.{Flattening, work}
use Rattle.chains.proofs.chain.flatten.Given as goal

abbrev pub invariant-loop-terms : goal.invariant-loop-terms
invariant-loop-terms l =
    Flattening l.nodes l.count l.root (keeps (nodes_in l.nodes l.count) (of_bits binary64 l.threshold)) l.terms l.found l.front l.back l.top l.id

abbrev pub decreases-loop-terms : goal.decreases-loop-terms
decreases-loop-terms l =
    work l.terms l.front l.top l.id * 3 + late l.nodes l.count l.id 0 l.left_step + late l.nodes l.count l.id 1 l.right_step
