-- By the kind and the number of children.
use mathlib.Core.Path.{refl}
use native.Mathlib.Omega.{arith}
use Rattle.definitions.specs.Modes.{mode_of}
use Rattle.decisions.proofs.FiringLaws as Fires
use Rattle.decisions.specs.declared.firing.Pattern.TheVariants.{NegDouble}
use Rattle.patterns.proofs.FiringLaws as Firing
use Rattle.patterns.proofs.pattern.Goals as goal

pub returns-in_err-replacement-in-8-len1 : goal.returns-in_err-replacement-in-8-len1
returns-in_err-replacement-in-8-len1 c =
    rw c.from_residual.ensures
    (Firing.one_child _ _ (mode_of c.args.mode) _ c.from.ensures (omega arith) c.in-8-len1.is-0 (Fires.last_declines _ c.in_err-replacement-in-8-len1.ensures))

pub returns-in_ok-replacement-in-8-len1 : goal.returns-in_ok-replacement-in-8-len1
returns-in_ok-replacement-in-8-len1 c = Firing.one_child _ _ (mode_of c.args.mode) _ c.from.ensures (omega arith) c.in-8-len1.is-0 (Fires.last NegDouble refl c.in_ok-replacement-in-8-len1.ensures)

pub returns-in_default : goal.returns-in_default
returns-in_default c = Firing.no_firing _ _ (mode_of c.args.mode) (λ e f. omega arith) (λ e. grind arith)

pub returns-in_default-2 : goal.returns-in_default-2
returns-in_default-2 c = Firing.no_firing _ _ (mode_of c.args.mode) (λ e f. omega arith) (λ e. grind arith)

pub returns-in_default-3 : goal.returns-in_default-3
returns-in_default-3 c = Firing.no_firing _ _ (mode_of c.args.mode) (λ e f. omega arith) (λ e. grind arith)

pub returns-in_default-4 : goal.returns-in_default-4
returns-in_default-4 c = Firing.no_firing _ _ (mode_of c.args.mode) (λ e f. omega arith) (λ e. grind arith)

pub returns-in_default-5 : goal.returns-in_default-5
returns-in_default-5 c = Firing.no_firing _ _ (mode_of c.args.mode) (λ e f. omega arith) (λ e. grind arith)

pub returns-in_default-6 : goal.returns-in_default-6
returns-in_default-6 c = Firing.no_firing _ _ (mode_of c.args.mode) (λ e f. omega arith) (λ e. grind arith)
