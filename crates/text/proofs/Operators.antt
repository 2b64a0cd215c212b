-- The requests of operators by their kinds' codes.
use Prim.Native.Nat.{ℕ, zero, suc, ◌≤◌, ◌<◌}
use mathlib.Core.Path.{◌≡◌, refl}
use mathlib.Core.Bool.{Bool, true, false, cond, ◌||◌}
use mathlib.Core.List.{[], ◌∷◌}
use lib.Dec.{eqb}
use native.Mathlib.Omega.{arith}
use Rattle.definitions.specs.Node.{node, neg_kind}
use Rattle.definitions.specs.Machine as M
use Rattle.text_language.specs.Program.{operator_token}
use Rattle.text.specs.Making.{operator_call, flags_of}

pub low_kind : (kind first second : ℕ) → kind < 2 → M.requested (operator_call (operator_token kind) first second) ≡ M.request true (node neg_kind 0 0 (first ∷ []))
unfolding operator_token
low_kind zero first second l = refl
low_kind (suc zero) first second l = refl
low_kind (suc (suc k)) first second l = absurd (omega arith)

pub high_kind : (kind first second : ℕ) → 6 < kind → M.requested (operator_call (operator_token kind) first second) ≡ M.request true (node neg_kind 0 0 (first ∷ []))
unfolding operator_token
high_kind zero first second l = absurd (omega arith)
high_kind (suc zero) first second l = absurd (omega arith)
high_kind (suc (suc zero)) first second l = absurd (omega arith)
high_kind (suc (suc (suc zero))) first second l = absurd (omega arith)
high_kind (suc (suc (suc (suc zero)))) first second l = absurd (omega arith)
high_kind (suc (suc (suc (suc (suc zero))))) first second l = absurd (omega arith)
high_kind (suc (suc (suc (suc (suc (suc zero)))))) first second l = absurd (omega arith)
high_kind (suc (suc (suc (suc (suc (suc (suc k))))))) first second l = refl

pub joining_kind : (kind first second : ℕ) → 2 ≤ kind → kind ≤ 6 → M.requested (operator_call (operator_token kind) first second) ≡ M.request true (node kind 0 (flags_of kind) (second ∷ first ∷ []))
unfolding operator_token
joining_kind zero first second l m = absurd (omega arith)
joining_kind (suc zero) first second l m = absurd (omega arith)
joining_kind (suc (suc zero)) first second l m = refl
joining_kind (suc (suc (suc zero))) first second l m = refl
joining_kind (suc (suc (suc (suc zero)))) first second l m = refl
joining_kind (suc (suc (suc (suc (suc zero))))) first second l m = refl
joining_kind (suc (suc (suc (suc (suc (suc zero)))))) first second l m = refl
joining_kind (suc (suc (suc (suc (suc (suc (suc k))))))) first second l m = absurd (omega arith)

pub flags_low : (kind : ℕ) → flags_of kind < 4
flags_low kind = go (eqb kind 2) (eqb kind 4)
  where
    go : (a b : Bool) → cond (a || b) 3 0 < 4
    go true b = omega arith
    go false true = omega arith
    go false false = omega arith
