-- Nodes that may be interned: a constant, and an operator of two operands with the flags that `add` and `mul` give.
use Prim.Native.Nat.{ℕ, zero, suc, ◌<◌}
use mathlib.Core.Path.{◌≡◌, refl, ap}
use mathlib.Core.Bool.{Bool, true, false, not, ◌&&◌}
use mathlib.Core.List.{[], ◌∷◌}
use lib.ListN.{get_or, replicate}
use lib.Ieee.{binary64, nan_bits}
use native.Mathlib.Omega.{arith}
use Rattle.definitions.specs.Limits.{most_children}
use Rattle.definitions.specs.Node.{constant_kind, both_flags}
use Rattle.kinds.specs.Kind.{operator_arity}
use Rattle.store.specs.View.{listed}
use Rattle.store.specs.Lookup.{Fits}

-- unused child places are 0
zeros_at : (k j : ℕ) → ◌≡◌ {A = ℕ} (get_or (replicate k 0) j 0) 0
zeros_at zero j = refl
zeros_at (suc k) zero = refl
zeros_at (suc k) (suc j) = zeros_at k j

pub no_children : (j : ℕ) → ◌≡◌ {A = ℕ} (get_or (replicate most_children 0) j 0) 0
no_children = zeros_at most_children

pub constant_fits : (count b : ℕ) → nan_bits binary64 b ≡ false → Fits count constant_kind b 0 []
unfolding listed operator_arity
constant_fits count b n = record { listing = ap (λ (t : Bool). not t && true) n; unmarked = omega arith; few = omega arith; lower = λ j h. absurd (omega arith) }

both_low : (a b count : ℕ) → a < count → b < count → (j : ℕ) → j < 2 → get_or (a ∷ b ∷ []) j 0 < count
both_low a b count x y zero l = x
both_low a b count x y (suc zero) l = y
both_low a b count x y (suc (suc j)) l = absurd (omega arith)

pub operator_fits : (count k a b : ℕ) → listed k 0 2 ≡ true → a < count → b < count → Fits count k 0 both_flags (a ∷ b ∷ [])
operator_fits count k a b listing left right = record {
  listing = listing;
  unmarked = omega arith;
  few = omega arith;
  lower = both_low a b count left right;
}
