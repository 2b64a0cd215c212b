-- `limbs::multiply_by_power` meets its contract. Assumes nothing.
use Prim.Native.Nat.{◌^◌, ◌≤◌}
use Rattle.computed_thresholds.specs.Limbs.{Multiplied}
use Rattle.computed_thresholds.proofs.limbs.multiply_by_power.Given as goal

abbrev pub invariant-loop : goal.invariant-loop
invariant-loop l = Multiplied l.initial.limbs l.used (l.factor ^ l.counter) l.count l.limbs × (l.counter ≤ l.times)
