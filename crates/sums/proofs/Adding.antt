-- An Add of two ids may be interned.
use Prim.Native.Nat.{ℕ, ◌<◌}
use mathlib.Core.Path.{refl}
use mathlib.Core.List.{[], ◌∷◌}
use Rattle.definitions.specs.Node.{add_kind, both_flags}
use Rattle.kinds.specs.Kind.{operator_arity}
use Rattle.store.specs.View.{listed}
use Rattle.store.specs.Lookup.{Fits}
use Rattle.store.proofs.Fitting.{operator_fits}

pub add_fits : (count left right : ℕ) → left < count → right < count → Fits count add_kind 0 both_flags (left ∷ right ∷ [])
unfolding listed operator_arity
add_fits count left right = operator_fits count add_kind left right refl
