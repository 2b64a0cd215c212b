-- Demand 1 over memory, "for every content of the lent buffers": of every model whose calls meet their contract.
use Rattle.std.specs.Prelude.{◌≡◌, ◌∷◌}
use Rattle.definitions.specs.Refusals.{not_sound}
use Rattle.definitions.specs.Controller.{ControllerCall, ControllerAnswer, refused, takes}
use Rattle.definitions.specs.Promise.{ControllerModel, ControllerCalled, All}
use Rattle.refusals_listed.specs.Listed.{ResultOr, listed_refusals}

-- of a call, the memory before it and its answer
pub record AnswersOn (M : ControllerModel) (c : ControllerCall) (m : M.Memory) (a : ControllerAnswer) : Type 0 where
  pub listed : ResultOr (not_sound ∷ listed_refusals c) a
  -- 20 exactly if a part that the call takes is not sound
  pub unsound : (All (M.Sound m) (takes c) → ⊥) → a ≡ refused not_sound
  pub sound : All (M.Sound m) (takes c) → a ≡ refused not_sound → ⊥

-- every call that meets its contract, on every memory
abbrev pub CallsAnswerListed : Type 1
CallsAnswerListed = (M : ControllerModel) (c : ControllerCall) (m m' : M.Memory) (a : ControllerAnswer)
    → ControllerCalled M c m a m' → AnswersOn M c m a
