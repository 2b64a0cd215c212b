-- `name_audit::entries_sound` meets its contract. The loop's invariant: the entries passed are sound.
use Rattle.name_entries.specs.Sound.{EntriesSound}
use Rattle.name_audit.proofs.entries_sound.Given as goal

abbrev pub invariant-loop-i : goal.invariant-loop-i
invariant-loop-i l = EntriesSound l.entries l.i
