use mathlib.Core.Path.{refl}
use Rattle.definitions.specs.Strict as S
use Rattle.definitions.specs.Firing.{apply_as, firing, binary_firing}
use Rattle.decisions.specs.declared.firing.Pattern.TheVariants.{ConstantFold}
use Rattle.decisions.proofs.FiringLaws as Firing
use Rattle.strict_patterns.proofs.strict_pattern.Goals as goal

pub returns-in-Some : goal.returns-in-Some
unfolding apply_as S.strict_apply firing binary_firing
returns-in-Some c = Firing.first c.first_function.result c.first_function.ensures c.in-Some.ensures _ _

pub returns-in_err-replacement : goal.returns-in_err-replacement
unfolding apply_as S.strict_apply firing binary_firing
returns-in_err-replacement c = rw c.from_residual.ensures (Firing.second _ c.in_default.ensures (Firing.last_declines _ c.in_err-replacement.ensures))

pub returns : goal.returns
unfolding apply_as S.strict_apply firing binary_firing
returns c = Firing.second _ c.in_default.ensures (Firing.last ConstantFold refl c.in_ok-replacement.ensures)
