-- A step can be taken from the first state, and again as long as the walk goes on and a frame is left.
use Prim.Native.Nat.{ℕ, ◌≤◌}
use mathlib.Core.Path.{◌≡◌, sym, subst}
use native.Mathlib.Omega.{arith}
use Rattle.rebuild.specs.Memory.{Memory, SoundMemory, nodes_of}
use Rattle.runs.specs.declared.state.Walk.{Walk}
use Rattle.std.specs.Prelude.{Ok}
use Rattle.turns.specs.Stack.{Invariant}
use Rattle.turns.specs.Turns.{Turnable}
use Rattle.runs.specs.States.{stack_of, Steps}
use Rattle.runs.specs.Runs.{Startable}
use Rattle.runs.proofs.Running.{begins}

pub first : (m : Memory) (root : ℕ) (walk : Walk) → SoundMemory m → Startable m root walk → SoundMemory m × Turnable m walk.limit (stack_of walk)
first m root walk sound s =
    (sound, record { some = omega (arith, s.starts.one); invariant = (begins m root 0 walk sound s).invariant })

pub again : (m : Memory) (walk : Walk) (m' : Memory) (r : Walk) → Steps m walk m' r → r.status ≡ Ok tt → 1 ≤ (stack_of r).depth
    → SoundMemory m' × Turnable m' r.limit (stack_of r)
again m walk m' r s going some = (
  s.turns.kept.whole,
  record {
    some = some;
    invariant = subst (λ (limit : ℕ). Invariant (nodes_of m') limit (stack_of r)) (sym s.limit_is) (s.turns.goes going);
  },
)
