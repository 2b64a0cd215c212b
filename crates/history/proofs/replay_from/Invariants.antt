use Prim.Native.Nat.{◌-◌}
use mathlib.Core.Path.{◌≡◌}
use lib.ListN.{length}
use Rattle.history.specs.Replaying.{after}
use Rattle.history.proofs.Replaying.{RunTo}
use Rattle.history.proofs.replay_from.Given as goal

abbrev pub invariant-loop-next : goal.invariant-loop-next
invariant-loop-next l = record {
  nodes : length l.nodes ≡ length l.initial.nodes;
  slots : length l.slots ≡ length l.initial.slots;
  entries : length l.entries ≡ length l.initial.entries;
  run : RunTo (after l.initial.nodes l.initial.slots l.initial.entries l.initial.last) l.calls l.rest l.last l.run (after l.nodes l.slots l.entries l.last);
}

abbrev pub decreases-loop-next : goal.decreases-loop-next
decreases-loop-next l = length l.rest
