-- Each way of folding two operands, as a decision.
use Prim.Native.Nat.{ℕ}
use mathlib.Core.Path.{◌≡◌, refl, sym, ap, ◌∙◌, subst}
use mathlib.Core.List.{List, []}
use mathlib.Core.Option.{Option, none, some}
use lib.Ieee.{Float, binary64, of_bits, to_bits}
use native.Mathlib.Omega.{arith}
use Rattle.definitions.specs.Node.{Node, node, at, constant_kind}
use Rattle.definitions.specs.Intern.{Lent, Built, intern}
use Rattle.definitions.specs.Patterns.{constant_value, intern_constant, constant_fold, fold_both, folded, fold}
use Rattle.fold.specs.Fold.{stored}
use Rattle.fold.specs.Exactness.{Folds}
use Rattle.std.specs.Prelude.{Some, None}
use Rattle.store.specs.View.{nodes_in}
use Rattle.decisions.specs.Deciding.{Both, Decides}
use Rattle.decisions.specs.declared.Replacement.TheVariants.{Constant}

stored_built : (l : Lent) (ns : List Node) (b : ℕ) (o : Option Float) → Some b ≡ stored o → some (intern l ns (node constant_kind b 0 [])) ≡ folded l ns o
unfolding intern_constant
stored_built l ns b none e = absurd (let z : ◌≡◌ {A = ℕ} 0 1 = cc in omega arith)
stored_built l ns b (some z) e = let q : b ≡ to_bits binary64 z = cc in ap (λ (i : ℕ). some (intern l ns (node constant_kind i 0 []))) q

declined_built : (l : Lent) (ns : List Node) (o : Option Float) → None ≡ stored o → none ≡ folded l ns o
declined_built l ns none e = refl
declined_built l ns (some z) e = absurd (let z : ◌≡◌ {A = ℕ} 0 1 = cc in omega arith)

module _ {w : List ℕ} {count a b : ℕ} (h : Both w count a b) (k : ℕ) where
  abbrev x : Option Float
  x = constant_value (at (nodes_in w count) a)

  abbrev y : Option Float
  y = constant_value (at (nodes_in w count) b)

  abbrev folding : Lent → List Node → Option Built
  folding l ns = constant_fold l ns k a b

  pub left_missing : none ≡ x → Decides w count folding None
  unfolding constant_fold
  left_missing p = record { is = λ l. subst (λ (o : Option Float). none ≡ fold_both l (nodes_in w count) k o y) p refl; low = tt }

  module _ (i : ℕ) (p : some (of_bits binary64 i) ≡ constant_value (at (nodes_in w count) a)) where
    abbrev u : Float
    u = of_bits binary64 i

    pub right_missing : none ≡ y → Decides w count folding None
    unfolding constant_fold
    right_missing q = record {
      is = λ l. subst (λ (o : Option Float). none ≡ fold_both l (nodes_in w count) k o y) p (subst (λ (o : Option Float). none ≡ fold_both l (nodes_in w count) k (some u) o) q refl);
      low = tt;
    }

    module _ (j : ℕ) (q : some (of_bits binary64 j) ≡ constant_value (at (nodes_in w count) b)) where
      abbrev v : Float
      v = of_bits binary64 j

      both : (l : Lent) (o : Option Built) → o ≡ folded l (nodes_in w count) (fold k u v) → o ≡ constant_fold l (nodes_in w count) k a b
      unfolding constant_fold
      both l o e =
          subst (λ (t : Option Float). o ≡ fold_both l (nodes_in w count) k t y) p (subst (λ (t : Option Float). o ≡ fold_both l (nodes_in w count) k (some u) t) q e)

      pub fold_declined : Folds k i j None → Decides w count folding None
      fold_declined f = record { is = λ l. both l _ (declined_built l (nodes_in w count) (fold k u v) f.is); low = tt }

      pub folds : {r : ℕ} → Folds k i j (Some r) → Decides w count folding (Some (Constant r))
      folds {r} f = record { is = λ l. both l _ (stored_built l (nodes_in w count) r (fold k u v) f.is); low = f.number }
