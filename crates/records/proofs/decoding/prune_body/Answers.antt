use Rattle.records.proofs.Bodies as B
use Rattle.records.proofs.decoding.prune_body.Goals as goal

pub returns-then-length : goal.returns-then-length
returns-then-length c = B.prune_wrong _ _ _ c.requires c.if-length.true

pub returns : goal.returns
returns c = B.prune_whole _ _ _ c.requires c.if-length.false _ _ c.number-operand.ensures.is c.number-threshold.ensures.is
