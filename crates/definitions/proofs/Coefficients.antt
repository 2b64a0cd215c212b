-- Coefficients in steps of 1/1024 have at most 10 fraction bits, and up to 2^43 they are of the exact kind.
use Prim.Native.Nat.{ℕ, ◌*◌, ◌^◌, ◌≤◌}
use mathlib.Core.Path.{◌≡◌, sym, subst}
use mathlib.Core.Bool.{Bool}
use lib.Dec.{T, lit<}
use lib.IntN.{ℤ, pos, negsuc}
use lib.Ieee.{Float, fin, up, down}
use native.Mathlib.Omega.{arith}
use native.Mathlib.Nat.{mul-le-mul_right, max-le, pow-le-pow_right}
use Rattle.definitions.specs.Patterns.{finite}
use Rattle.definitions.specs.Value.{fraction_bits}
use Rattle.definitions.specs.Exact.{Exact, bound, Within, constant_bound}
use Rattle.definitions.specs.ExactExamples.{Coefficients}
use Rattle.definitions.proofs.FractionBits.{least_shift}

down_is : (e : ℤ) → fraction_bits e ≤ 10 → down e ≤ 2 ^ 10
down_is (pos k) h = omega arith
down_is (negsuc k) h = pow-le-pow_right (lit< tt) h

within_of : (b : Bool) (m : ℕ) (e : ℤ) → fraction_bits e ≤ 10 → m * up e ≤ 2 ^ 43 * down e → Within (constant_bound (fin b m e))
within_of b m e h k = let d = down_is e h in mul-le-mul_right (2 ^ fraction_bits e) (max-le (omega arith) (omega arith))

pub coefficients : Coefficients
unfolding Exact bound
coefficients bits b m e h w =
    let l = (least_shift bits b m e h).1 10 w in
    (subst (λ (x : Float). (constant_bound x).bits ≤ 10) (sym h) l, λ k. subst (λ (x : Float). Within (constant_bound x) × T (finite x) × Unit {0}) (sym h) (within_of b m e l k, tt, tt))
