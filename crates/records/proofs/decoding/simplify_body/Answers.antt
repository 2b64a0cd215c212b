use Rattle.records.proofs.Bodies as B
use Rattle.records.proofs.decoding.simplify_body.Goals as goal

pub returns-then-length : goal.returns-then-length
returns-then-length c = B.simplify_wrong _ _ _ c.requires c.args.mode c.if-length.true

pub returns : goal.returns
returns c = B.simplify_whole _ _ _ c.requires c.args.mode c.if-length.false _ _ c.number-operand.ensures.is c.number-budget.ensures.is
