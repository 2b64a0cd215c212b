use Rattle.store.proofs.Leaving.{leaves_unsound}
use Rattle.store_calls.proofs.perform.Goals as goal

pub returns-then-not-audit : goal.returns-then-not-audit
returns-then-not-audit c = leaves_unsound _ _ (c.audit.ensures.no c.if-not-audit.true)

pub perform_sound-requires : goal.perform_sound-requires
perform_sound-requires c = c.audit.ensures.yes c.if-not-audit.false
