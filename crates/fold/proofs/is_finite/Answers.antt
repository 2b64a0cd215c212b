use mathlib.Core.Path.{ap, ap₂, sym, ◌∙◌}
use lib.Ieee as Ieee
use Rattle.fold.proofs.Values.{infinity_is, infinity_fine, below_is, not_below_is}
use Rattle.fold.proofs.is_finite.Goals as goal

pub float_from_bits-infinity : goal.float_from_bits-infinity
float_from_bits-infinity c = infinity_fine

pub returns-then-x-infinity : goal.returns-then-x-infinity
returns-then-x-infinity c = ap₂ Ieee.lt (ap Ieee.neg infinity_is) c.value-x.ensures ∙ below_is _ (ap₂ Ieee.lt (sym c.value-x.ensures) (sym infinity_is) ∙ c.if-x-infinity.true)

pub returns-else-x-infinity : goal.returns-else-x-infinity
returns-else-x-infinity c = c.if-x-infinity.false ∙ not_below_is _ (ap₂ Ieee.lt (sym c.value-x.ensures) (sym infinity_is) ∙ c.if-x-infinity.false)
