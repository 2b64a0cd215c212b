use Rattle.records.proofs.Bodies as B
use Rattle.records.proofs.decoding.constant_body.Goals as goal

pub returns-then-length-ne-BITS_BYTES : goal.returns-then-length-ne-BITS_BYTES
returns-then-length-ne-BITS_BYTES c = B.constant_wrong _ _ _ c.requires c.if-length-ne-BITS_BYTES.true

pub returns : goal.returns
returns c = B.constant_whole _ _ _ c.requires c.if-length-ne-BITS_BYTES.false _ c.number.ensures.is
