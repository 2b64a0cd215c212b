-- What plain soundness gives: each node fits its id, and no two ids have one formula.
use Prim.Native.Nat.{ℕ, zero, suc, ◌<◌, ◌≤◌}
use mathlib.Core.Path.{◌≡◌, sym, ◌∙◌, subst}
use mathlib.Core.Bool.{true, ◌||◌, ◌&&◌}
use mathlib.Core.List.{List, [], ◌∷◌}
use lib.ListN.{length}
use native.Mathlib.Omega.{arith}
use lib.Dec.{T, eqb, ltb, ltb→lt}
use lib.Ieee.Fits.{and_l, and_r}
use Rattle.definitions.specs.Node.{Node, at, same}
use Rattle.definitions.specs.Machine.{all_below}
use Rattle.definitions.specs.Formula.{tree, forest, formula}
use Rattle.definitions.proofs.Stable.{Lower, opened}
use Rattle.definitions.proofs.Intern.{Sound, Inj, eq_same, T_true, grow_inj, lower_up}
use Rattle.pruned_again.specs.Plain.{PlainlySound}

lower_of : (n : ℕ) (ks : List ℕ) → all_below n ks ≡ true → Lower n ks
lower_of n [] e = tt
lower_of n (k ∷ ks) e =
    let t : T (ltb k n && all_below n ks) = subst T (sym e) tt in
    (ltb→lt k n (and_l (ltb k n) (all_below n ks) t), lower_of n ks (T_true (all_below n ks) (and_r (ltb k n) (all_below n ks) t)))

pub fitting : (ns : List Node) → PlainlySound ns → Sound ns
fitting ns s i h = record {
  low = lower_of i (at ns i).children (s.lower i h);
  filled = λ t. s.filled i h (T_true (eqb (at ns i).kind 2 || eqb (at ns i).kind 3) t);
  number = s.numbers i h;
}

-- by rising id: the children of two nodes of one formula lie below both
pub one_formula : (ns : List Node) → PlainlySound ns → (n : ℕ) → n ≤ length ns → (i j : ℕ) → i < n → j < n → formula ns i ≡ formula ns j → i ≡ j
one_formula ns s zero l i j hi hj e = absurd (omega arith)
one_formula ns s (suc n) l i j hi hj e =
    let li : i < length ns = omega arith in
    let lj : j < length ns = omega arith in
    let fi = (fitting ns s i li).low in
    let fj = (fitting ns s j lj).low in
    let a = at ns i in
    let b = at ns j in
    let o : tree a.kind a.payload a.flags (forest (formula ns) a.children) ≡ tree b.kind b.payload b.flags (forest (formula ns) b.children)
    = sym (opened ns i li fi) ∙ e ∙ opened ns j lj fj in
    let ek : a.kind ≡ b.kind = cc in
    let ep : a.payload ≡ b.payload = cc in
    let ef : a.flags ≡ b.flags = cc in
    let ec : forest (formula ns) a.children ≡ forest (formula ns) b.children = cc in
    let es = grow_inj (formula ns) n (one_formula ns s n (omega arith)) a.children b.children (lower_up i n (omega arith) a.children fi) (lower_up j n (omega arith) b.children fj) ec in
    s.apart i j li lj (T_true (same a b) (eq_same a b ek ep ef es))

pub apart : (ns : List Node) → PlainlySound ns → Inj ns
apart ns s i j hi hj e = one_formula ns s (length ns) (omega arith) i j hi hj e
