-- Refusal 20, or the call on a sound store.
use Rattle.walk.proofs.Calling as C
use Rattle.walk.proofs.simplify.Goals as goal

pub returns-then-not-audit : goal.returns-then-not-audit
returns-then-not-audit c = C.unsound c.args.mode _ _ _ _ (c.audit.ensures.no c.if-not-audit.true)

pub simplify_sound-requires : goal.simplify_sound-requires
simplify_sound-requires c = c.audit.ensures.yes c.if-not-audit.false
