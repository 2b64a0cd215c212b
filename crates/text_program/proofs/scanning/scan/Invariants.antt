use Prim.Native.Nat.{◌-◌}
use lib.ListN.{length}
use Rattle.text_program.proofs.Scans.{Scanned}
use Rattle.text_program.proofs.scanning.scan.Given as goal

abbrev pub invariant-loop-further : goal.invariant-loop-further
invariant-loop-further l = Scanned l.text l.state

abbrev pub decreases-loop-further : goal.decreases-loop-further
decreases-loop-further l = length l.text - l.state.at
