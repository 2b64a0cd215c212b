-- `name_audit::audit` meets its contract: its tests are the parts of soundness.
use native.Mathlib.Omega.{arith}
use Rattle.name_audit.proofs.Auditing.{many_no, lent_no, entries_no, all_parts}
use Rattle.name_audit.proofs.audit.Goals as goal

pub returns-then-count-gt-MOST_NAMES : goal.returns-then-count-gt-MOST_NAMES
returns-then-count-gt-MOST_NAMES c = many_no _ _ c.if-count-gt-MOST_NAMES.true

pub returns-then-entries-count : goal.returns-then-entries-count
returns-then-entries-count c = lent_no _ _ c.if-entries-count.true

pub entries_sound-requires : goal.entries_sound-requires
entries_sound-requires c = omega arith

pub returns-then-not-entries_sound : goal.returns-then-not-entries_sound
returns-then-not-entries_sound c = entries_no _ _ _ c.entries_sound.ensures c.if-not-entries_sound.true

pub no_name_twice-requires : goal.no_name_twice-requires
no_name_twice-requires c = (c.if-count-gt-MOST_NAMES.false, omega arith, c.entries_sound.ensures.yes c.if-not-entries_sound.false)

pub returns : goal.returns
returns c = all_parts _ _ _ c.if-count-gt-MOST_NAMES.false c.if-entries-count.false (c.entries_sound.ensures.yes c.if-not-entries_sound.false) c.no_name_twice.ensures
