-- `magnitudes::magnitude_of_term` meets its contract.
use mathlib.Core.Path.{sym, ◌∙◌}
use Rattle.magnitudes.proofs.Magnitudes.{constant_magnitude, other_magnitude}
use Rattle.magnitudes.proofs.magnitude_of_term.Goals as goal

pub returns-then-kind-eq-CONSTANT : goal.returns-then-kind-eq-CONSTANT
returns-then-kind-eq-CONSTANT c = constant_magnitude _ _ (sym c.kind.ensures ∙ c.if-kind-eq-CONSTANT.true) c.payload.ensures

pub returns-else-kind-eq-CONSTANT : goal.returns-else-kind-eq-CONSTANT
returns-else-kind-eq-CONSTANT c = other_magnitude _ (λ e. c.if-kind-eq-CONSTANT.false (c.kind.ensures ∙ e))
