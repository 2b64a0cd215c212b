use Rattle.pruner.specs.Answers.{unsound, sound}
use Rattle.pruner.proofs.prune_audited.Goals as goal

pub returns-then-not-audit : goal.returns-then-not-audit
returns-then-not-audit c = unsound (c.audit.ensures.no c.if-not-audit.true)

pub prune_lists-requires : goal.prune_lists-requires
prune_lists-requires c = c.audit.ensures.yes c.if-not-audit.false

pub returns : goal.returns
returns c = sound (c.audit.ensures.yes c.if-not-audit.false) c.prune_lists.ensures
