-- `name_entries::entry::same` meets its contract. The loop's invariant: the bytes of the words passed agree.
use Prim.Native.Nat.{◌+◌, ◌*◌}
use Rattle.name_entries.specs.Entry.{word_bytes}
use Rattle.name_entries.proofs.Words.{Agree}
use Rattle.name_entries.proofs.entry.same.Given as goal

abbrev pub invariant-loop-k : goal.invariant-loop-k
invariant-loop-k l = Agree l.a l.b (l.k * word_bytes + 1)
