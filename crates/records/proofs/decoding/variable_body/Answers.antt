use Rattle.records.proofs.Bodies as B
use Rattle.records.proofs.decoding.variable_body.Goals as goal

pub returns-then-length-ne-SYMBOL_BYTES : goal.returns-then-length-ne-SYMBOL_BYTES
returns-then-length-ne-SYMBOL_BYTES c = B.variable_wrong _ _ _ c.requires c.if-length-ne-SYMBOL_BYTES.true

pub returns : goal.returns
returns c = B.variable_whole _ _ _ c.requires c.if-length-ne-SYMBOL_BYTES.false _ c.number.ensures.is
