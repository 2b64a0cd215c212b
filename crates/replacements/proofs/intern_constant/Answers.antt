use Rattle.store.proofs.Fitting.{constant_fits}
use Rattle.replacements.proofs.intern_constant.Goals as goal

pub intern-requires : goal.intern-requires
intern-requires c = constant_fits _ _ c.requires

pub returns-clause-builds : goal.returns-clause-builds
returns-clause-builds c = c.intern.ensures.interns.builds
