-- What a run does, by the plain machine.
use Rattle.std.specs.Prelude.{ℕ, ◌≤◌, ◌<◌, ◌≡◌, true, false, Result}
use Rattle.refusal.specs.declared.Refusal.{Refusal}
use Rattle.definitions.specs.Limits.{most_depth}
use Rattle.definitions.specs.Walk.{Mode, walk_root}
use Rattle.definitions.specs.Machine as M
use Rattle.rebuild.specs.Memory.{Memory, nodes_of, lent_of, Keeps}
use Rattle.runs.specs.declared.state.Walk.{Walk}
use Rattle.runs.specs.States.{Starts}
use Rattle.runs.specs.declared.Simplified.{Simplified}
use Rattle.runs.specs.Answers.{meaning}

-- a state that a run goes on from
pub record Startable (m : Memory) (root : ℕ) (walk : Walk) : Type 0 where
  pub below : root < m.arena.count
  pub listed : walk.limit ≤ most_depth
  pub starts : Starts walk.mode root walk.limit walk

-- "Exactly if the budget is used up with frames left, the answer is the root, 'spent'"
pub record Ends (frames result root steps : ℕ) (r : Simplified) : Type 0 where
  pub finished : frames ≡ 0 → r ≡ record { id = result; spent = false; steps = steps }
  pub spent : (frames ≡ 0 → ⊥) → r ≡ record { id = root; spent = true; steps = steps }

-- the whole walk of a root, with the budget
pub record WalksRoot (mode : Mode) (m : Memory) (root limit budget : ℕ) (m' : Memory) (answer : Result Simplified Refusal) : Type 0 where
  pub plainly : M.outcome (meaning answer) (nodes_of m') ≡ M.walked_as root (walk_root mode (lent_of m) limit budget (nodes_of m) root)
  pub kept : Keeps m m'
