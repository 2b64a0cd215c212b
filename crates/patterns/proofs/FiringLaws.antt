-- A decision by the mode and by the number of children.
use Prim.Native.Nat.{ℕ, ◌<◌}
use mathlib.Core.Path.{◌≡◌, refl, sym, subst}
use mathlib.Core.List.{List, [], ◌∷◌}
use mathlib.Core.Option.{none}
use mathlib.Core.Logic.{◌⊎◌}
use lib.ListN.{length, get_or}
use native.Mathlib.Omega.{arith}
use Rattle.definitions.specs.Node.{add_kind, pow_kind, neg_kind}
use Rattle.definitions.specs.Walk.{Mode, standard, strict}
use Rattle.definitions.specs.Patterns.{neg_double, try_apply}
use Rattle.definitions.specs.Strict.{strict_apply}
use Rattle.definitions.specs.Firing as F
use Rattle.definitions.specs.Firing.{apply_as, if_fits, firing}
use Rattle.definitions.proofs.Firing.{exactly}
use Rattle.store.specs.View.{nodes_in}
use Rattle.decisions.specs.Fired.{Chooses, Fires}
use Rattle.std.specs.Prelude.{Some, None}
use Rattle.std.specs.Prelude as Std
use Rattle.decisions.specs.declared.firing.Decision.{Decision}
use Rattle.decisions.proofs.FittingLaws.{nothing}
use Rattle.patterns.proofs.KindLaws.{no_pattern}

one_of : (c : List ℕ) → length c ≡ 1 → get_or c 0 0 ∷ [] ≡ c
one_of [] e = absurd (omega arith)
one_of (a ∷ []) e = refl
one_of (a ∷ b ∷ c) e = absurd (omega arith)

two_of : (c : List ℕ) → length c ≡ 2 → get_or c 0 0 ∷ get_or c 1 0 ∷ [] ≡ c
two_of [] e = absurd (omega arith)
two_of (a ∷ []) e = absurd (omega arith)
two_of (a ∷ b ∷ []) e = refl
two_of (a ∷ b ∷ c ∷ d) e = absurd (omega arith)

negated : {w : List ℕ} {count : ℕ} {d : Std.Option Decision} (m : Mode) (a : ℕ) → Chooses w count (λ l ns. neg_double ns a) (λ l ns. if_fits (neg_double ns a) F.neg_double none) d
    → Fires m w count neg_kind (a ∷ []) d
unfolding apply_as try_apply strict_apply firing
negated standard a h = h
negated strict a h = h

module _ {w : List ℕ} {count : ℕ} {d : Std.Option Decision} (k : ℕ) (c : List ℕ) where
  pub in_mode : (m n : Mode) → m ≡ n → Fires n w count k c d → Fires m w count k c d
  in_mode m n e h = subst (λ (x : Mode). Fires x w count k c d) (sym e) h

  module _ (m : Mode) where
    pub two_children : length c ≡ 2 → Fires m w count k (get_or c 0 0 ∷ get_or c 1 0 ∷ []) d → Fires m w count k c d
    two_children e h = subst (λ (x : List ℕ). Fires m w count k x d) (two_of c e) h

    pub one_child : (a : ℕ) → a ≡ get_or c 0 0 → length c ≡ 1 → k ≡ neg_kind → Chooses w count (λ l ns. neg_double ns a) (λ l ns. if_fits (neg_double ns a) F.neg_double none) d → Fires m w count k c d
    one_child a g e f h =
        subst (λ (x : List ℕ). Fires m w count k x d) (one_of c e)
        (subst (λ (x : ℕ). Fires m w count x (get_or c 0 0 ∷ []) d) (sym f) (subst (λ (x : ℕ). Fires m w count neg_kind (x ∷ []) d) g (negated m a h)))

-- no pattern for the number of children, or for the kind
pub no_firing : {w : List ℕ} {count : ℕ} (k : ℕ) (c : List ℕ) (m : Mode) → (length c ≡ 1 → k ≡ neg_kind → ⊥) → (length c ≡ 2 → (k < add_kind) ⊎ (pow_kind < k)) → Fires m w count k c None
no_firing {w} {count} k c m u v = record {
  decides = nothing (λ l ns. no_pattern m l ns k c u v);
  fired = λ l. sym ((exactly m l (nodes_in w count) k c).1 (sym (no_pattern m l (nodes_in w count) k c u v)));
}
