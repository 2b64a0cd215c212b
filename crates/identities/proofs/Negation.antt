-- The operand of a Neg.
use Prim.Native.Nat.{ℕ}
use mathlib.Core.Path.{◌≡◌, refl, sym, ap, ◌∙◌}
use mathlib.Core.List.{List, [], ◌∷◌}
use mathlib.Core.Option.{Option, none, some}
use lib.ListN.{length, get_or}
use native.Mathlib.Omega.{arith}
use Rattle.definitions.specs.Node.{Node, at, neg_kind}
use Rattle.definitions.specs.Intern.{Lent, Built, built}
use Rattle.definitions.specs.Patterns.{only_child, neg_double}
use Rattle.store.specs.View.{nodes_in}
use Rattle.store.specs.Lookup.{Lookup}
use Rattle.decisions.specs.Deciding.{Decides}
use Rattle.std.specs.Prelude.{Some}
use Rattle.decisions.specs.declared.Replacement.TheVariants.{Id}
use Rattle.decisions.proofs.Children.{this_kind, child_below}

one : (ns : List Node) (c : List ℕ) → length c ≡ 1 → some (built ns (get_or c 0 0)) ≡ only_child ns c
one ns [] h = absurd (omega arith)
one ns (a ∷ []) h = refl
one ns (a ∷ b ∷ c) h = absurd (omega arith)

module _ {w : List ℕ} {count a : ℕ} (h : Lookup w count a) where
  abbrev n : Node
  n = at (nodes_in w count) a

  module _ {j : ℕ} (k : j ≡ (at (nodes_in w count) a).kind) where
    abbrev double : Lent → List Node → Option Built
    double l ns = neg_double ns a

    module _ {m : ℕ} (long : m ≡ length (at (nodes_in w count) a).children) where
      pub operand : {p : ℕ} → j ≡ neg_kind → m ≡ 1 → p ≡ get_or n.children 0 0 → Decides w count double (Some (Id p))
      operand e f g = record {
        is = λ l.
            ap (λ (i : ℕ). some (built (nodes_in w count) i)) g ∙ one (nodes_in w count) n.children (sym long ∙ f)
            ∙ this_kind n.kind neg_kind j (only_child (nodes_in w count) n.children) none k e;
        low = rw g (child_below h 0 (omega (arith, long, f)));
      }
