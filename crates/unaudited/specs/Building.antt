-- Building in numbers on a store that is known to be sound.
use Rattle.std.specs.Prelude.{ℕ, true, List, [], ◌∷◌}
use Rattle.definitions.specs.Node as N
use Rattle.definitions.specs.Machine as M
use Rattle.store.specs.Memory.{Memory}
use Rattle.building.specs.Requests.{BuildsSound}
use Rattle.outputs.specs.Calls.{LeftBehind}

-- the request for this node: its answer, left as the number that is returned and the id behind its pointer
pub record BuildsNode (kind payload flags : ℕ) (operands : List ℕ) (m : Memory) (id r id' : ℕ) (m' : Memory) : Type 0 where
  pub answer : M.Answer
  pub built : BuildsSound (M.request true (N.node kind payload flags operands)) m answer m'
  pub left : LeftBehind answer r (M.stored id') (id ∷ []) (id' ∷ [])
