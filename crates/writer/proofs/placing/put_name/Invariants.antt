-- The invariant: the name's bytes so far are written from the place on.
use Rattle.std.proofs.Common.{◌≡◌, length}
use Rattle.std.proofs.Math.Seq.{paste}
use Rattle.name_entries.specs.Sound as Names
use Rattle.writer.proofs.placing.put_name.Given as goal

abbrev pub invariant-loop-i : goal.invariant-loop-i
invariant-loop-i l = record {
  written : l.out ≡ paste l.initial.out l.place (Names.name_at l.entries l.symbol) l.i;
  long : length l.out ≡ length l.initial.out;
}
