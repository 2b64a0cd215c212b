use Rattle.definitions.specs.Modes.{mode_of}
use Rattle.store.specs.Held.{held}
use Rattle.rebuild.proofs.Rebuilding as B
use Rattle.rebuild.proofs.finish_in.Goals as goal

pub returns-clause-finishes : goal.returns-clause-finishes
returns-clause-finishes c = B.marks (held c.args.store.now) _ _ c.requires (mode_of c.args.mode) (held c.rebuild_or_match.new.store) _ c.in_ok-rewritten.ensures.rebuilds (held c.mark.new.store) c.mark.ensures.marks
