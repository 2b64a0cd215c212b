-- `name_audit::entries_sound` meets its contract. The loop's invariant: the entries passed are sound.
use native.Mathlib.Omega.{arith}
use Rattle.definitions.proofs.Deciding.{says_yes}
use Rattle.name_audit.proofs.Auditing.{entry_bad, entry_good}
use Rattle.name_audit.proofs.entries_sound.Goals as goal

pub loop-i-init : goal.loop-i-init
loop-i-init c = λ i l. absurd (omega arith)

pub returns-then-not-sound : goal.returns-then-not-sound
returns-then-not-sound c = entry_bad _ _ _ _ c.at.ensures c.sound.ensures _ (omega arith) c.if-not-sound.true

pub loop-i-preserved : goal.loop-i-preserved
loop-i-preserved c = entry_good _ _ _ _ c.at.ensures c.sound.ensures c.if-not-sound.false c.loop-i.invariant

pub returns : goal.returns
returns c = says_yes (λ i l. c.loop-i.invariant i (omega arith))
