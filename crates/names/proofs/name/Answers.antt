-- `names::name` meets its contract: each way through it is one case of the plain registry.
use native.Mathlib.Omega.{arith}
use Rattle.names.proofs.Calling.{name_called_unsound, name_called_unknown, name_called_known}
use Rattle.names.proofs.name.Goals as goal

pub returns-then-not-audit : goal.returns-then-not-audit
returns-then-not-audit c = name_called_unsound _ _ _ (c.audit.ensures.no c.if-not-audit.true)

pub returns-then-count-n : goal.returns-then-count-n
returns-then-count-n c = name_called_unknown _ _ _ (c.audit.ensures.yes c.if-not-audit.false) c.if-count-n.true

pub at-held-requires : goal.at-held-requires
at-held-requires c = let m = (c.audit.ensures.yes c.if-not-audit.false).lent in omega arith

pub name_length-length-requires : goal.name_length-length-requires
name_length-length-requires c = c.at-held.ensures.size

pub name_bytes-bytes-requires : goal.name_bytes-bytes-requires
name_bytes-bytes-requires c = c.at-held.ensures.size

pub returns : goal.returns
returns c = name_called_known _ _ _ (c.audit.ensures.yes c.if-not-audit.false) c.if-count-n.false _ _ _ c.at-held.ensures c.name_length-length.ensures c.name_bytes-bytes.ensures
