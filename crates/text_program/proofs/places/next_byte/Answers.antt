use Rattle.text_language.proofs.Place.{one_skipped, spot_byte, spot_end}
use Rattle.text_program.proofs.places.next_byte.Goals as goal

pub returns-then-byte-ne32 : goal.returns-then-byte-ne32
returns-then-byte-ne32 c = spot_byte _ _ _ c.loop-at.invariant c.loop-at-test.true c.if-byte-ne32.true

pub loop-at-preserved : goal.loop-at-preserved
loop-at-preserved c = one_skipped _ _ _ c.loop-at.invariant c.loop-at-test.true c.if-byte-ne32.false

pub returns : goal.returns
returns c = spot_end _ _ _ c.loop-at.invariant c.loop-at-test.false
