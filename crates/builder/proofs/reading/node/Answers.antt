use Rattle.std.proofs.Common.{refl}
use Rattle.builder.proofs.Looking.{reads_unsound, reads_unknown, reads_fits, reads_found}
use Rattle.builder.proofs.reading.node.Goals as goal

pub returns-then-not-audit : goal.returns-then-not-audit
returns-then-not-audit c = reads_unsound _ _ _ _ _ refl (c.audit.ensures.no c.if-not-audit.true)

pub returns-then-arena-id : goal.returns-then-arena-id
returns-then-arena-id c = rw (← c.from-id.ensures) (reads_unknown _ _ _ _ (c.audit.ensures.yes c.if-not-audit.false) _ refl c.if-arena-id.true)

pub load-requires : goal.load-requires
load-requires c = reads_fits _ _ _ _ (c.audit.ensures.yes c.if-not-audit.false) c.if-arena-id.false

pub returns : goal.returns
returns c = rw (← c.from-id.ensures) (reads_found _ _ _ _ (c.audit.ensures.yes c.if-not-audit.false) c.if-arena-id.false _ c.load.ensures)
