-- A reading as a call of the controller: what the contract of the code gives.
use Rattle.std.specs.Prelude.{List, ℕ}
use Rattle.definitions.specs.Controller.{reading}
use Rattle.definitions.specs.Promise.{ControllerCalled}
use Rattle.store.specs.declared.NodeAnswer.{NodeAnswer}
use Rattle.text.specs.Memory.{ControllerMemory, lent_controller}
use Rattle.text.specs.Reading.{ReadsText}
pub use Rattle.text.specs.Reading.{answered}

-- the contract of `read` is what demand 3 takes of a reading
abbrev pub ReadsAsCalled : Type 0
ReadsAsCalled = (s : List ℕ) (m m' : ControllerMemory) (a : NodeAnswer) → ReadsText s m a m'
    → ControllerCalled lent_controller (reading s) m (answered a) m'
