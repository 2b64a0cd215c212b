-- A walk's state, its beginning and a step of it.
use Rattle.std.specs.Prelude.{ℕ, ◌≡◌, [], ◌∷◌, Ok}
use Rattle.definitions.specs.Walk.{frame}
use Rattle.definitions.specs.Modes.{mode_of}
use Rattle.definitions.specs.declared.mode.Mode as Modes
use Rattle.rebuild.specs.Memory.{Memory}
use Rattle.turns.specs.Stack.{Stack, stack, frames_in, Whole}
use Rattle.turns.specs.Turns.{Turns}
use Rattle.runs.specs.declared.state.Walk.{Walk}

-- a walk's stack
abbrev pub stack_of : Walk → Stack
stack_of walk = stack walk.arrays walk.heights

-- "the root is always walked": it has the first frame, and there is no value
pub record Starts (mode : Modes.Mode) (root limit : ℕ) (walk : Walk) : Type 0 where
  pub frames : frames_in (stack_of walk) ≡ frame root 0 0 ∷ []
  pub one : (stack_of walk).depth ≡ 1
  pub none : (stack_of walk).filled ≡ 0
  pub whole : Whole (stack_of walk)
  pub mode_is : walk.mode ≡ mode
  pub limit_is : walk.limit ≡ limit
  pub going : walk.status ≡ Ok tt

-- a step of a state, which is given back
pub record Steps (m : Memory) (walk : Walk) (m' : Memory) (r : Walk) : Type 0 where
  pub turns : Turns (mode_of walk.mode) m walk.limit (stack_of walk) m' (stack_of r) r.status
  pub mode_is : r.mode ≡ walk.mode
  pub limit_is : r.limit ≡ walk.limit
