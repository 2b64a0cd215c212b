-- The constant among the two children of a product or a sum.
use Prim.Native.Nat.{ℕ, ◌<◌}
use mathlib.Core.Path.{◌≡◌, refl, sym, ap, ap₂, ◌∙◌, subst}
use mathlib.Core.List.{List, [], ◌∷◌}
use mathlib.Core.Option.{Option, none, some}
use lib.ListN.{length, get_or}
use lib.Ieee.{Float, binary64, of_bits}
use native.Mathlib.Omega.{arith}
use Rattle.definitions.specs.Node.{Node, at}
use Rattle.definitions.specs.Patterns.{constant_value, pair, pair_of}
use Rattle.store.specs.View.{nodes_in}
use Rattle.store.specs.Lookup.{Lookup}
use Rattle.merges.specs.Merging.{Split, plain_split, split_by, split, SplitsConstant, OtherLow}
use Rattle.decisions.proofs.Children.{this_kind, child_below}
use Rattle.merges.specs.declared.ConstantChild.{ConstantChild}
use Rattle.decisions.specs.declared.Side.TheVariants.{Left, Right}
use Rattle.std.specs.Prelude.{Some, None}
use Rattle.std.specs.Prelude as Std

two : (c : List ℕ) → length c ≡ 2 → some (get_or c 0 0, get_or c 1 0) ≡ pair c
two [] h = absurd (omega arith)
two (a ∷ []) h = absurd (omega arith)
two (a ∷ b ∷ []) h = refl
two (a ∷ b ∷ c ∷ d) h = absurd (omega arith)

module _ {w : List ℕ} {count a : ℕ} (h : Lookup w count a) where
  abbrev n : Node
  n = at (nodes_in w count) a

  module _ (t : ℕ) {j : ℕ} (k : j ≡ (at (nodes_in w count) a).kind) where
    abbrev Splitting : Std.Option ConstantChild → Type 0
    Splitting r = SplitsConstant (nodes_in w count) count t a r

    module _ {m : ℕ} (long : m ≡ length (at (nodes_in w count) a).children) where
      module _ {p q : ℕ} (e : j ≡ t) (f : m ≡ 2) (x : p ≡ get_or (at (nodes_in w count) a).children 0 0) (y : q ≡ get_or (at (nodes_in w count) a).children 1 0) where
        is_pair : some (p, q) ≡ pair_of t n
        is_pair =
            ap₂ (λ (u v : ℕ). some (u, v)) x y ∙ two n.children (sym long ∙ f) ∙ this_kind n.kind t j (pair n.children) none k e

        splits : (r : Std.Option ConstantChild) → plain_split r ≡ split_by p q (constant_value (at (nodes_in w count) p)) (constant_value (at (nodes_in w count) q)) → OtherLow count r → Splitting r
        splits r g l = record { is = g ∙ ap (split (nodes_in w count)) is_pair; low = l }

        pub constant_first : (b : ℕ) → some (of_bits binary64 b) ≡ constant_value (at (nodes_in w count) p) → Splitting (Some (record { bits = b; side = Left; other = q }))
        constant_first b g =
            splits (Some (record { bits = b; side = Left; other = q })) (ap (λ (o : Option Float). split_by p q o (constant_value (at (nodes_in w count) q))) g) (rw y (child_below h 1 (omega (arith, long, f))))

        module _ (none-first : none ≡ constant_value (at (nodes_in w count) p)) where
          pub constant_second : (b : ℕ) → some (of_bits binary64 b) ≡ constant_value (at (nodes_in w count) q) → Splitting (Some (record { bits = b; side = Right; other = p }))
          constant_second b g = splits (Some (record { bits = b; side = Right; other = p })) (ap₂ (λ (o u : Option Float). split_by p q o u) none-first g) (rw x (child_below h 0 (omega (arith, long, f))))
