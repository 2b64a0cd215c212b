-- A node rebuilt over children that may stand for the old ones may stand for the node, if a pattern's result may; over any relation of formulas that
-- is reflexive, transitive and kept by nodes.
use Prim.Native.Nat.{ℕ, suc, ◌<◌}
use mathlib.Core.Path.{◌≡◌, refl, sym, ap, subst}
use mathlib.Core.Bool.{Bool, true, false, cond}
use mathlib.Core.List.{List, [], ◌∷◌}
use mathlib.Core.Option.{Option, none, some}
use lib.ListN.{length}
use native.Mathlib.Omega.{arith}
use Rattle.definitions.specs.Node.{Node, node, at, same_children}
use Rattle.definitions.specs.Intern.{Built, built, Lent, intern}
use Rattle.definitions.specs.Walk.{rebuilt_flags, rebuilt}
use Rattle.definitions.specs.Formula.{Tree, tree, forest, formula}
use Rattle.definitions.proofs.Stable.{Lower, opened}
use Rattle.definitions.proofs.Intern.{Sound, Result, stay, interned, over}
use Rattle.definitions.proofs.Walk.{Pairs}
use Rattle.definitions.proofs.Results.{result_map, Fires}

module _ (R : Tree → Tree → Type 0) (ns : List Node) where
  pub pairs_lower : (vs ks : List ℕ) → Pairs R ns vs ks → Lower (length ns) vs
  pairs_lower [] [] h = tt
  pairs_lower [] (k ∷ ks) h = absurd h
  pairs_lower (v ∷ vs) [] h = absurd h
  pairs_lower (v ∷ vs) (k ∷ ks) h = (h.0.0, pairs_lower vs ks h.1)

  pairs_length : (vs ks : List ℕ) → Pairs R ns vs ks → length vs ≡ length ks
  pairs_length [] [] h = refl
  pairs_length [] (k ∷ ks) h = absurd h
  pairs_length (v ∷ vs) [] h = absurd h
  pairs_length (v ∷ vs) (k ∷ ks) h = ap suc (pairs_length vs ks h.1)

module _ (R : Tree → Tree → Type 0) (R-refl : (t : Tree) → R t t) (R-trans : (a b c : Tree) → R a b → R b c → R a c)
    (R-cong : (ns : List Node) (k p f f' : ℕ) (vs ks : List ℕ) → Pairs R ns vs ks → R (tree k p f' (forest (formula ns) vs)) (tree k p f (forest (formula ns) ks))) where
  pub rebuilt_stands : (l : Lent) (ns : List Node) → Sound ns → (i : ℕ) (vs : List ℕ) → i < length ns → Pairs R ns vs (at ns i).children → (o : Option Built)
      → Fires ns (λ ms j. R (formula ms j) (tree (at ns i).kind (at ns i).payload 0 (forest (formula ns) vs))) o → Result ns (λ ms j. R (formula ms j) (formula ns i)) (rebuilt l ns i vs o)
  rebuilt_stands l ns s i vs hi ps o x = go o x
    where
      n : Node
      n = at ns i

      new : Node
      new = node n.kind n.payload (rebuilt_flags n.kind (length vs)) vs

      same : (f : ℕ) → R (tree n.kind n.payload f (forest (formula ns) vs)) (formula ns i)
      same f = subst (λ t. R (tree n.kind n.payload f (forest (formula ns) vs)) t) (sym (opened ns i hi (s i hi).low)) (R-cong ns n.kind n.payload n.flags f vs n.children ps)

      pick : (b : Bool) → Result ns (λ ms j. R (formula ms j) (formula ns i)) (cond b (built ns i) (intern l ns new))
      pick true = (stay ns s, hi, R-refl (formula ns i))
      pick false =
          result_map ns (λ ms j. formula ms j ≡ over ns new) (λ ms j. R (formula ms j) (formula ns i)) (intern l ns new)
          (λ ms j st e. subst (λ t. R t (formula ns i)) (sym e) (same (rebuilt_flags n.kind (length vs))))
          (interned l ns new s (record { low = pairs_lower R ns vs n.children ps; filled = λ t. omega (arith, (s i hi).filled t, pairs_length R ns vs n.children ps); number = (s i hi).number }))

      go : (o : Option Built) → Fires ns (λ ms j. R (formula ms j) (tree n.kind n.payload 0 (forest (formula ns) vs))) o → Result ns (λ ms j. R (formula ms j) (formula ns i)) (rebuilt l ns i vs o)
      go none x = pick (same_children n.children vs)
      go (some m) x =
          result_map ns (λ ms j. R (formula ms j) (tree n.kind n.payload 0 (forest (formula ns) vs))) (λ ms j. R (formula ms j) (formula ns i)) m
          (λ ms j st g. R-trans (formula ms j) (tree n.kind n.payload 0 (forest (formula ns) vs)) (formula ns i) g (same 0)) x
