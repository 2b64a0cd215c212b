-- `table_audit::audit` meets its contract: its tests make up the nodes and the table, and follow from them.
use mathlib.Core.Path.{sym, ◌∙◌}
use native.Mathlib.Omega.{arith}
use borrow.Author.Rules.{rules}
use borrow.Author.Tests.{not-true, not-false}
use Rattle.definitions.proofs.Deciding.{says_no, says_map}
use Rattle.table_audit.proofs.AuditedTable.{sound_of, meets_own, number_of}
use Rattle.table_audit.proofs.audit.Goals as goal

pub returns-then-slots-size : goal.returns-then-slots-size
returns-then-slots-size c = says_no (λ s. let l = s.1.sized in omega arith)

pub returns-then-not-is_table_size : goal.returns-then-not-is_table_size
returns-then-not-is_table_size c = says_no (λ s. c.is_table_size.ensures.no c.if-not-is_table_size.true s.1.doubled)

pub returns-then-not-audit_nodes : goal.returns-then-not-audit_nodes
returns-then-not-audit_nodes c = says_no (λ s. c.audit_nodes.ensures.no c.if-not-audit_nodes.true s.0.formed)

pub load_limit-requires : goal.load_limit-requires
load_limit-requires c = c.is_table_size.ensures.yes c.if-not-is_table_size.false

pub returns-then-load_limit-ids : goal.returns-then-load_limit-ids
returns-then-load_limit-ids c = says_no (λ s. let l = s.1.load in let e = c.load_limit.ensures in omega arith)

pub returns-then-used_slots-ids : goal.returns-then-used_slots-ids
returns-then-used_slots-ids c = says_no (λ s. c.if-used_slots-ids.true (c.used_slots.ensures ∙ number_of _ _ _ _ s.0 s.1))

pub all_meet_own-requires : goal.all_meet_own-requires
all_meet_own-requires c = (c.audit_nodes.ensures.yes c.if-not-audit_nodes.false, record { doubled = c.is_table_size.ensures.yes c.if-not-is_table_size.false; sized = c.if-slots-size.false })

pub returns : goal.returns
returns c = says_map _ (λ own. sound_of _ _ _ _ own (sym c.used_slots.ensures ∙ c.if-used_slots-ids.false) (c.audit_nodes.ensures.yes c.if-not-audit_nodes.false) (c.is_table_size.ensures.yes c.if-not-is_table_size.false) c.if-slots-size.false (let e = c.load_limit.ensures in let l = c.if-load_limit-ids.false in omega arith)) (λ s. meets_own _ _ _ _ s.0 s.1) c.all_meet_own.ensures
