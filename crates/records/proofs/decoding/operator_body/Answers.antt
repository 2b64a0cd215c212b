use Rattle.records.proofs.Bodies as B
use Rattle.records.proofs.decoding.operator_body.Goals as goal

pub returns-then-length-lt2 : goal.returns-then-length-lt2
returns-then-length-lt2 c = B.operator_short _ _ _ c.requires c.if-length-lt2.true

pub returns-then-left-ne0 : goal.returns-then-left-ne0
returns-then-left-ne0 c = B.operator_half _ _ _ c.requires c.if-length-lt2.false c.if-left-ne0.true

pub returns : goal.returns
returns c = B.operator_whole _ _ _ c.requires c.if-length-lt2.false c.if-left-ne0.false
