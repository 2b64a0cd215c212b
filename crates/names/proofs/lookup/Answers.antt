-- `names::lookup` meets its contract: each way through it is one case of the plain registry.
use native.Mathlib.Omega.{arith}
use Rattle.names.proofs.Calling.{called_unsound, lookup_length, is_found, is_nothing, lookup_known, lookup_unknown}
use Rattle.names.proofs.Determined.{clauses_give_equation}
use Rattle.names.proofs.lookup.Goals as goal

pub returns-then-not-audit : goal.returns-then-not-audit
returns-then-not-audit c = clauses_give_equation _ _ _ _ _ _ (called_unsound _ _ _ (c.audit.ensures.no c.if-not-audit.true))

pub returns-then-not-length_allowed : goal.returns-then-not-length_allowed
returns-then-not-length_allowed c = clauses_give_equation _ _ _ _ _ _ (lookup_length _ _ (c.audit.ensures.yes c.if-not-audit.false) _ (c.length_allowed.ensures.no c.if-not-length_allowed.true))

pub of_name-sought-requires : goal.of_name-sought-requires
of_name-sought-requires c = (c.length_allowed.ensures.yes c.if-not-length_allowed.false).longest

pub find-requires : goal.find-requires
find-requires c = (let m = (c.audit.ensures.yes c.if-not-audit.false).lent in omega arith, c.of_name-sought.ensures.size)

pub overflow_cast-result : goal.overflow_cast-result
overflow_cast-result c = let b = (is_found _ _ _ _ c.of_name-sought.ensures _ c.in-Some.ensures).below in let m = (c.audit.ensures.yes c.if-not-audit.false).many in omega arith

pub returns-in-Some : goal.returns-in-Some
returns-in-Some c = clauses_give_equation _ _ _ _ _ _ (lookup_known _ _ (c.audit.ensures.yes c.if-not-audit.false) _ (c.length_allowed.ensures.yes c.if-not-length_allowed.false) _ (is_found _ _ _ _ c.of_name-sought.ensures _ c.in-Some.ensures))

pub returns-in-None : goal.returns-in-None
returns-in-None c = clauses_give_equation _ _ _ _ _ _ (lookup_unknown _ _ (c.audit.ensures.yes c.if-not-audit.false) _ (c.length_allowed.ensures.yes c.if-not-length_allowed.false) (is_nothing _ _ _ _ c.of_name-sought.ensures c.in-None.ensures))
