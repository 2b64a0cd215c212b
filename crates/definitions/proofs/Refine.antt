-- One formula may stand for another: of the exact kind with it, no larger in bits and weight, and of the same value.
use Prim.Native.Nat.{ℕ, zero, suc, ◌+◌, ◌*◌, ◌^◌, ◌<◌, ◌≤◌}
use mathlib.Core.Path.{◌≡◌, refl, sym, ap, ◌∙◌, subst, subst₂}
use mathlib.Core.Bool.{Bool, true, false, cond, ◌||◌, not}
use mathlib.Core.List.{List, [], ◌∷◌}
use lib.ListN.{length}
use native.Mathlib.Omega.{arith}
use lib.Dec.{T, eqb, eqb→eq}
use lib.Ieee.{binary64, of_bits}
use Rattle.definitions.specs.Node.{Node, at}
use Rattle.definitions.specs.Formula.{Tree, tree, Forest, nil, cons, forest, formula}
use Rattle.definitions.specs.Dyadic.{Dyadic}
use Rattle.definitions.specs.Value.{Reading, apply, value_of, values_of}
use Rattle.definitions.specs.Exact.{Bound, node_bound, bound, bounds, Within, exact_kind, Exact, ExactAll}
use Rattle.definitions.proofs.Bounds.{Le, le_self, le_then, small_le, LeAll, node_bound_mono}
use Rattle.definitions.proofs.Walk.{StandsFor, Pairs}

pub record Refines (t' t : Tree) : Type 0 where
  pub exact : Exact t'
  pub smaller : Le (bound t') (bound t)
  pub equal : (r : Reading) → value_of r t' ≡ value_of r t

abbrev pub Replaces : Tree → Tree → Type 0
Replaces t' t = Exact t → Refines t' t

pub replaces_refl : (t : Tree) → Replaces t t
replaces_refl t x = record { exact = x; smaller = le_self (bound t); equal = λ r. refl }

pub replaces_trans : {a b c : Tree} → Replaces a b → Replaces b c → Replaces a c
replaces_trans {a} {b} {c} f g x =
    let q = g x in
    let p = f q.exact in
    record { exact = p.exact; smaller = le_then p.smaller q.smaller; equal = λ r. p.equal r ∙ q.equal r }

record RefinesAll (c' c : Forest) : Type 0 where
  exacts : ExactAll c'
  smallers : LeAll (bounds c') (bounds c)
  equals : (r : Reading) → values_of r c' ≡ values_of r c

all_good : (ns : List Node) (vs ks : List ℕ) → Pairs Replaces ns vs ks → ExactAll (forest (formula ns) ks) → RefinesAll (forest (formula ns) vs) (forest (formula ns) ks)
unfolding bound Exact value_of
all_good ns [] [] p x = record { exacts = tt; smallers = tt; equals = λ r. refl }
all_good ns [] (k ∷ ks) p x = absurd p
all_good ns (v ∷ vs) [] p x = absurd p
all_good ns (v ∷ vs) (k ∷ ks) p x =
    let g = p.0.1 x.0 in
    let gs = all_good ns vs ks p.1 x.1 in
    record {
      exacts = (g.exact, gs.exacts);
      smallers = (g.smaller, gs.smallers);
      equals = λ r. let a = g.equal r in let b = gs.equals r in cc;
    }

-- the same node over children that may stand for the old ones
pub replaces_cong : (ns : List Node) (k p f f' : ℕ) (vs ks : List ℕ) → Pairs Replaces ns vs ks → Replaces (tree k p f' (forest (formula ns) vs)) (tree k p f (forest (formula ns) ks))
unfolding bound Exact value_of
replaces_cong ns k p f f' vs ks h x =
    let F = formula ns in
    let g = all_good ns vs ks h x.2 in
    let le = node_bound_mono k p (bounds (forest F vs)) (bounds (forest F ks)) g.smallers in
    record {
      exact = (small_le le x.0, x.1, g.exacts);
      smaller = le;
      equal = λ r. ap (apply r k p) (g.equals r);
    }
