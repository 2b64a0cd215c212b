use native.Mathlib.Omega.{arith}
use Rattle.writer.proofs.Answering.{no_store, no_names, no_id, with_text}
use Rattle.writer.proofs.write.Goals as goal

pub returns-then-not-audit : goal.returns-then-not-audit
returns-then-not-audit c = no_store _ _ _ _ _ _ _ c.audit.ensures c.if-not-audit.true

pub returns-then-not-is_sound : goal.returns-then-not-is_sound
returns-then-not-is_sound c = no_names _ _ _ _ _ _ _ c.is_sound.ensures c.if-not-is_sound.true

pub returns-then-arena-node : goal.returns-then-arena-node
returns-then-arena-node c = no_id _ _ _ _ _ _ _ c.audit.ensures c.if-not-audit.false c.is_sound.ensures c.if-not-is_sound.false (let e = c.from-node.ensures in let l = c.if-arena-node.true in omega (arith, e, l))

pub returns : goal.returns
returns c = with_text _ _ _ _ _ _ _ c.audit.ensures c.if-not-audit.false c.is_sound.ensures c.if-not-is_sound.false (let e = c.from-node.ensures in let l = c.if-arena-node.false in omega (arith, e, l)) (rw c.from-node.ensures at c.write_sound.ensures)
