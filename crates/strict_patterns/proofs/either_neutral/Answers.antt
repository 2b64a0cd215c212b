use Rattle.std.proofs.Common.{rules}
use Rattle.decisions.proofs.FittingLaws.{either_fits}
use Rattle.strict_patterns.proofs.either_neutral.Goals as goal

pub returns : goal.returns
returns c = either_fits c.neutral.result c.neutral.ensures (λ e. search rules) (λ x e. search rules)
