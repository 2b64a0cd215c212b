-- Kinds and children that no pattern fits.
use Prim.Native.Nat.{ℕ, ◌≤◌, ◌<◌}
use mathlib.Core.Path.{◌≡◌, refl}
use mathlib.Core.List.{List, [], ◌∷◌}
use mathlib.Core.Option.{Option, none, some}
use mathlib.Core.Logic.{◌⊎◌, inl, inr}
use lib.ListN.{length}
use lib.Ieee.{Float}
use native.Mathlib.Omega.{arith}
use borrow.Author.Tests.{ne_eqb}
use Rattle.definitions.specs.Node.{Node, at, add_kind, sub_kind, mul_kind, div_kind, pow_kind, neg_kind}
use Rattle.definitions.specs.Intern.{Lent}
use Rattle.definitions.specs.Walk.{Mode, standard, strict}
use Rattle.definitions.specs.Firing.{apply_as}
use Rattle.definitions.specs.Strict.{strict_apply}
use Rattle.definitions.specs.Patterns.{constant_value, binary64_result, fold, fold_both, constant_fold, try_apply}
use Rattle.identities.proofs.KindLaws.{no_identity}
use Rattle.merges.proofs.KindLaws.{no_merge}
use Rattle.strict_patterns.proofs.StrictLaws.{no_strict_identity}

no_fold : (k a b : ℕ) → (k ≡ add_kind → ⊥) → (k ≡ sub_kind → ⊥) → (k ≡ mul_kind → ⊥) → (k ≡ div_kind → ⊥) → (l : Lent) (ns : List Node) → none ≡ constant_fold l ns k a b
unfolding constant_fold fold binary64_result
no_fold k a b x y z u l ns = go (constant_value (at ns a)) (constant_value (at ns b))
  where
    go : (s t : Option Float) → none ≡ fold_both l ns k s t
    go none t = refl
    go (some s) none = refl
    go (some s) (some t) = rw (ne_eqb k add_kind x, ne_eqb k sub_kind y, ne_eqb k mul_kind z, ne_eqb k div_kind u) refl

no_binary : (l : Lent) (ns : List Node) (k a b : ℕ) → (k < add_kind) ⊎ (pow_kind < k) → none ≡ try_apply l ns k (a ∷ b ∷ [])
unfolding try_apply
no_binary l ns k a b h =
    let n : (j : ℕ) → add_kind ≤ j → j ≤ pow_kind → k ≡ j → ⊥ = λ j p q e. elim h [ inl x ↦ omega arith | inr x ↦ omega arith ] in
    let i = no_identity k a b (n 2 (omega arith) (omega arith)) (n 3 (omega arith) (omega arith)) (n 4 (omega arith) (omega arith)) (n 5 (omega arith) (omega arith)) (n 6 (omega arith) (omega arith)) l ns in
    let f = no_fold k a b (n 2 (omega arith) (omega arith)) (n 3 (omega arith) (omega arith)) (n 4 (omega arith) (omega arith)) (n 5 (omega arith) (omega arith)) l ns in
    let m = no_merge k a b (n 4 (omega arith) (omega arith)) (n 2 (omega arith) (omega arith)) l ns in
    rw (← i, ← f, ← m) refl

no_strict_binary : (l : Lent) (ns : List Node) (k a b : ℕ) → (k < add_kind) ⊎ (pow_kind < k) → none ≡ strict_apply l ns k (a ∷ b ∷ [])
unfolding strict_apply
no_strict_binary l ns k a b h =
    let n : (j : ℕ) → add_kind ≤ j → j ≤ pow_kind → k ≡ j → ⊥ = λ j p q e. elim h [ inl x ↦ omega arith | inr x ↦ omega arith ] in
    let i = no_strict_identity k a b (n 2 (omega arith) (omega arith)) (n 3 (omega arith) (omega arith)) (n 4 (omega arith) (omega arith)) (n 5 (omega arith) (omega arith)) l ns in
    let f = no_fold k a b (n 2 (omega arith) (omega arith)) (n 3 (omega arith) (omega arith)) (n 4 (omega arith) (omega arith)) (n 5 (omega arith) (omega arith)) l ns in
    rw (← i, ← f) refl

pub no_pattern : (m : Mode) (l : Lent) (ns : List Node) (k : ℕ) (c : List ℕ) → (length c ≡ 1 → k ≡ neg_kind → ⊥) → (length c ≡ 2 → (k < add_kind) ⊎ (pow_kind < k)) → none ≡ apply_as m l ns k c
unfolding apply_as try_apply strict_apply
no_pattern standard l ns k [] u v = refl
no_pattern standard l ns k (a ∷ []) u v = rw (ne_eqb k neg_kind (u refl)) refl
no_pattern standard l ns k (a ∷ b ∷ []) u v = no_binary l ns k a b (v refl)
no_pattern standard l ns k (a ∷ b ∷ c ∷ r) u v = refl
no_pattern strict l ns k [] u v = refl
no_pattern strict l ns k (a ∷ []) u v = rw (ne_eqb k neg_kind (u refl)) refl
no_pattern strict l ns k (a ∷ b ∷ []) u v = no_strict_binary l ns k a b (v refl)
no_pattern strict l ns k (a ∷ b ∷ c ∷ r) u v = refl
