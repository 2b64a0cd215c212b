use Rattle.std.specs.Prelude.{◌≡◌, length}
use Rattle.text.specs.Memory.{controller_memory}
use Rattle.text.proofs.Running.{Running}
use Rattle.text.proofs.making.run_program.Given as goal

abbrev pub invariant-loop-word : goal.invariant-loop-word
invariant-loop-word l = record {
  runs : Running l.text l.program (length l.program) (controller_memory l.initial.nodes l.initial.slots l.initial.store l.initial.entries l.names) (controller_memory l.nodes l.slots l.store l.entries l.count) l.stack l.height l.word-index;
  nodes : length l.nodes ≡ length l.initial.nodes;
  slots : length l.slots ≡ length l.initial.slots;
  entries : length l.entries ≡ length l.initial.entries;
}
