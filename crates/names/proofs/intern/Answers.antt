-- `names::intern` meets its contract.
use Rattle.names.proofs.Calling.{called_unsound, intern_length}
use Rattle.names.proofs.Determined.{clauses_give_equation}
use Rattle.names.proofs.intern.Goals as goal

pub returns-then-not-audit : goal.returns-then-not-audit
returns-then-not-audit c = clauses_give_equation _ _ _ _ _ _ (called_unsound _ _ _ (c.audit.ensures.no c.if-not-audit.true))

pub returns-then-not-length_allowed : goal.returns-then-not-length_allowed
returns-then-not-length_allowed c = clauses_give_equation _ _ _ _ _ _ (intern_length _ _ (c.audit.ensures.yes c.if-not-audit.false) _ (c.length_allowed.ensures.no c.if-not-length_allowed.true))

pub intern_allowed-requires : goal.intern_allowed-requires
intern_allowed-requires c = (c.audit.ensures.yes c.if-not-audit.false, c.length_allowed.ensures.yes c.if-not-length_allowed.false)

pub returns : goal.returns
returns c = c.intern_allowed.ensures
