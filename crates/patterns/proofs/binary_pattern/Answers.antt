use mathlib.Core.Path.{refl}
use Rattle.definitions.specs.Patterns as P
use Rattle.definitions.specs.Firing.{apply_as, firing, binary_firing}
use Rattle.definitions.specs.Firing as F
use Rattle.decisions.specs.declared.firing.Pattern.TheVariants.{ConstantFold}
use Rattle.decisions.proofs.FiringLaws as Firing
use Rattle.patterns.proofs.binary_pattern.Goals as goal

pub returns-in-Some : goal.returns-in-Some
unfolding apply_as P.try_apply firing binary_firing
returns-in-Some c = Firing.first c.first_function.result c.first_function.ensures c.in-Some.ensures _ _

pub returns-in-Some-constant_fold : goal.returns-in-Some-constant_fold
unfolding apply_as P.try_apply firing binary_firing
returns-in-Some-constant_fold c = Firing.second _ c.in_default.ensures (Firing.first ConstantFold refl c.in-Some-constant_fold.ensures _ _)

pub returns-in_err-replacement : goal.returns-in_err-replacement
unfolding apply_as P.try_apply firing binary_firing
returns-in_err-replacement c =
    rw c.from_residual.ensures
    (Firing.second _ c.in_default.ensures (Firing.second F.constant_fold c.in_default-constant_fold.ensures (Firing.last_declines _ c.in_err-replacement.ensures)))

pub returns : goal.returns
unfolding apply_as P.try_apply firing binary_firing
returns c =
    Firing.second _ c.in_default.ensures
    (Firing.second F.constant_fold c.in_default-constant_fold.ensures (Firing.last c.merge_function.result c.merge_function.ensures c.in_ok-replacement.ensures))
