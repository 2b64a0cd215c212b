-- `magnitudes::keeps` meets its contract.
use mathlib.Core.Path.{ap, ◌∙◌}
use lib.Ieee.{Float, binary64, of_bits, le}
use Rattle.definitions.specs.Prune.{keeps}
use Rattle.magnitudes.proofs.keeps.Goals as goal

pub returns : goal.returns
unfolding keeps
returns c = c.reaches.ensures ∙ ap (λ (x : Float). le (of_bits binary64 c.args.threshold) x) c.magnitude_of_term.ensures
