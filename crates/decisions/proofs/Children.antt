-- A node by its kind, and its children.
use Prim.Native.Nat.{ℕ, ◌<◌}
use mathlib.Core.Path.{◌≡◌, refl, sym, ◌∙◌}
use mathlib.Core.Bool.{cond}
use mathlib.Core.List.{List}
use lib.ListN.{length, get_or}
use lib.Dec.{eqb}
use native.Mathlib.Omega.{arith}
use borrow.Author.Tests.{eq-eqb}
use Rattle.definitions.specs.Node.{Node, at}
use Rattle.store.specs.View.{nodes_in}
use Rattle.store.specs.Lookup.{Lookup}
use Rattle.store.proofs.Reading.{child_low}

pub this_kind : {A : Type 0} (n k j : ℕ) (x y : A) → j ≡ n → j ≡ k → x ≡ cond (eqb n k) x y
this_kind n k j x y e f = rw (eq-eqb n k (sym e ∙ f)) refl

module _ {w : List ℕ} {count a : ℕ} (h : Lookup w count a) where
  abbrev n : Node
  n = at (nodes_in w count) a

  pub child_below : (i : ℕ) → i < length n.children → get_or n.children i 0 < count
  child_below i l = omega (arith, child_low w count a h i l, h.below)

  -- a child may be looked up
  pub child_lookup : {i p : ℕ} → p ≡ get_or n.children i 0 → i < length n.children → Lookup w count p
  child_lookup {i} e l = record { below = rw e (child_below i l); nodes = h.nodes }
