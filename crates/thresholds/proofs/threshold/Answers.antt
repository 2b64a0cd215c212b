-- The source's table is the definition's.
use Rattle.std.proofs.Common.{refl}
use Rattle.thresholds.specs.Thresholds.{thresholds, threshold}
use Rattle.thresholds.proofs.threshold.Goals as goal

pub returns : goal.returns
unfolding thresholds threshold
returns c = refl
