-- By the mode.
use mathlib.Core.Path.{ap}
use Rattle.definitions.specs.Modes.{mode_of}
use Rattle.store.specs.Held.{held}
use Rattle.rebuild.proofs.Rebuilding as B
use Rattle.rebuild.proofs.mark.Goals as goal

pub returns-in-Standard-clause-marks : goal.returns-in-Standard-clause-marks
returns-in-Standard-clause-marks c = B.standard_marked (held c.args.store.now) _ (ap mode_of c.in-Standard.is) (held c.mark.new.self) c.mark.ensures.marks c.mark.ensures.slots c.mark.ensures.arena

pub returns-in-Strict-clause-marks : goal.returns-in-Strict-clause-marks
returns-in-Strict-clause-marks c = B.strict_marked (held c.args.store.now) _ (ap mode_of c.in-Strict.is)
