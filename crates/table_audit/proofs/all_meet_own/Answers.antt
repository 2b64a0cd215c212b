-- The nodes passed meet their own slots.
use Rattle.std.proofs.Common.{arith}
use borrow.Author.Count.{below_more}
use Rattle.definitions.proofs.Deciding.{says_yes, all_no}
use Rattle.table_audit.proofs.all_meet_own.Goals as goal

pub loop-id-init : goal.loop-id-init
loop-id-init c = λ k l. absurd (omega arith)

pub meets_own-requires : goal.meets_own-requires
meets_own-requires c = (c.loop-id-test.true, c.requires.0, c.requires.1)

pub returns-then-not-meets_own : goal.returns-then-not-meets_own
returns-then-not-meets_own c = all_no _ _ _ _ c.loop-id-test.true c.meets_own.ensures c.if-not-meets_own.true

pub loop-id-preserved : goal.loop-id-preserved
loop-id-preserved c = below_more _ _ c.loop-id.invariant (c.meets_own.ensures.yes c.if-not-meets_own.false)

pub returns : goal.returns
returns c = says_yes (λ k l. c.loop-id.invariant k (omega arith))
