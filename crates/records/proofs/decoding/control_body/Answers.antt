use Rattle.records.proofs.Bodies as B
use Rattle.records.proofs.decoding.control_body.Goals as goal

pub returns-then-length-lt1 : goal.returns-then-length-lt1
returns-then-length-lt1 c = let a = c.args in B.control_short a.sheet.now a.at a.length c.if-length-lt1.true

pub returns-then-rest-ne0 : goal.returns-then-rest-ne0
returns-then-rest-ne0 c = B.control_half _ _ _ c.requires c.if-length-lt1.false c.if-rest-ne0.true

pub returns : goal.returns
returns c = B.control_whole _ _ _ c.requires c.if-length-lt1.false c.if-rest-ne0.false
