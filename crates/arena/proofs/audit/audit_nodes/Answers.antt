-- The nodes passed are well formed.
use Rattle.std.proofs.Common.{arith}
use borrow.Author.Count.{below_more}
use Rattle.definitions.proofs.Deciding.{says_yes, says_no}
use Rattle.arena.proofs.audit.audit_nodes.Goals as goal

pub returns-then-count-gt-MOST_NODES : goal.returns-then-count-gt-MOST_NODES
returns-then-count-gt-MOST_NODES c = says_no (λ f. let m = f.many in omega arith)

pub returns-then-nodes-count : goal.returns-then-nodes-count
returns-then-nodes-count c = says_no (λ f. let m = f.fits in omega arith)

pub loop-id-init : goal.loop-id-init
loop-id-init c = λ k l. absurd (omega arith)

pub returns-then-not-well_formed : goal.returns-then-not-well_formed
returns-then-not-well_formed c = says_no (λ f. c.well_formed-in-loop-id.ensures.no c.if-not-well_formed.true (f.each _ (omega arith)))

pub loop-id-preserved : goal.loop-id-preserved
loop-id-preserved c = below_more _ _ c.loop-id.invariant (c.well_formed-in-loop-id.ensures.yes c.if-not-well_formed.false)

pub returns : goal.returns
returns c = says_yes (record { many = c.if-count-gt-MOST_NODES.false; fits = omega arith; each = λ k l. c.loop-id.invariant k (omega arith) })
