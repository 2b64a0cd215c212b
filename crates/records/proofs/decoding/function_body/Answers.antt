use Rattle.records.proofs.Bodies as B
use Rattle.records.proofs.decoding.function_body.Goals as goal

pub returns-then-length-lt-SYMBOL_BYTES : goal.returns-then-length-lt-SYMBOL_BYTES
returns-then-length-lt-SYMBOL_BYTES c = B.function_short _ _ _ c.requires c.if-length-lt-SYMBOL_BYTES.true

pub returns-then-left-ne0 : goal.returns-then-left-ne0
returns-then-left-ne0 c = B.function_half _ _ _ c.requires c.if-length-lt-SYMBOL_BYTES.false c.if-left-ne0.true

pub returns : goal.returns
returns c = B.function_whole _ _ _ c.requires c.if-length-lt-SYMBOL_BYTES.false c.if-left-ne0.false _ c.number.ensures.is
