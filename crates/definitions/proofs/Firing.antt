-- A pattern fires exactly where the patterns of the mode do not decline.
use Prim.Native.Nat.{ℕ}
use native.Mathlib.Omega.{arith}
use mathlib.Core.Path.{◌≡◌, refl, sym, ap, ◌∙◌}
use mathlib.Core.Bool.{Bool, true, false, cond}
use mathlib.Core.List.{List, [], ◌∷◌}
use mathlib.Core.Option.{Option, none, some}
use lib.Dec.{eqb}
use Rattle.definitions.specs.Node.{Node, at, neg_kind}
use Rattle.definitions.specs.Intern.{Lent, Built}
use Rattle.definitions.specs.Patterns as P
use Rattle.definitions.specs.Patterns.{or_else, try_apply}
use Rattle.definitions.specs.Strict.{strict_identities, strict_apply}
use Rattle.definitions.specs.Walk.{Mode, standard, strict, rebuilt, rebuild_or_match, rebuild_strictly, rebuild_as}
use Rattle.definitions.specs.Firing.{Pattern, apply_as, first_function, merge_function, if_fits, binary_firing, firing}
use Rattle.definitions.specs.Firing as F

-- nothing fires exactly where nothing is made
abbrev pub Exactly : Option Pattern → Option Built → Type 0
Exactly o x = (o ≡ none → x ≡ none) × (x ≡ none → o ≡ none)

exactly_else : (x y : Option Built) (p : Pattern) (o : Option Pattern) → Exactly o y → Exactly (if_fits x p o) (or_else x y)
exactly_else none y p o h = h
exactly_else (some m) y p o h =
    ((λ e. absurd (let z : ◌≡◌ {A = ℕ} 0 1 = cc in omega arith)), (λ e. absurd (let z : ◌≡◌ {A = ℕ} 0 1 = cc in omega arith)))

exactly_last : (x : Option Built) (p : Pattern) → Exactly (if_fits x p none) x
exactly_last none p = ((λ e. refl), (λ e. refl))
exactly_last (some m) p =
    ((λ e. absurd (let z : ◌≡◌ {A = ℕ} 0 1 = cc in omega arith)), (λ e. absurd (let z : ◌≡◌ {A = ℕ} 0 1 = cc in omega arith)))

exactly_if : (b : Bool) (x : Option Built) (p : Pattern) → Exactly (cond b (if_fits x p none) none) (cond b x none)
exactly_if true x p = exactly_last x p
exactly_if false x p = ((λ e. refl), (λ e. refl))

pub exactly : (m : Mode) (l : Lent) (ns : List Node) (k : ℕ) (c : List ℕ) → Exactly (firing m l ns k c) (apply_as m l ns k c)
unfolding firing binary_firing apply_as try_apply strict_apply
exactly standard l ns k [] = ((λ e. refl), (λ e. refl))
exactly strict l ns k [] = ((λ e. refl), (λ e. refl))
exactly standard l ns k (a ∷ []) = exactly_if (eqb k neg_kind) (P.neg_double ns a) F.neg_double
exactly strict l ns k (a ∷ []) = exactly_if (eqb k neg_kind) (P.neg_double ns a) F.neg_double
exactly standard l ns k (a ∷ b ∷ []) =
    let identity = P.identities l ns k a b in
    let folded = P.constant_fold l ns k a b in
    let merged = P.merges l ns k a b in
    exactly_else identity (or_else folded merged) (first_function k) (if_fits folded F.constant_fold (if_fits merged (merge_function k) none))
    (exactly_else folded merged F.constant_fold (if_fits merged (merge_function k) none) (exactly_last merged (merge_function k)))
exactly strict l ns k (a ∷ b ∷ []) =
    let folded = P.constant_fold l ns k a b in
    exactly_else (strict_identities ns k a b) folded (first_function k) (if_fits folded F.constant_fold none) (exactly_last folded F.constant_fold)
exactly standard l ns k (a ∷ b ∷ c ∷ r) = ((λ e. refl), (λ e. refl))
exactly strict l ns k (a ∷ b ∷ c ∷ r) = ((λ e. refl), (λ e. refl))

-- a rebuild has the patterns of its mode
pub rebuilt_as : (m : Mode) (l : Lent) (ns : List Node) (i : ℕ) (c : List ℕ) → rebuilt l ns i c (apply_as m l ns (at ns i).kind c) ≡ rebuild_as m l ns i c
unfolding apply_as rebuild_or_match rebuild_strictly
rebuilt_as standard l ns i c = refl
rebuilt_as strict l ns i c = refl

-- where nothing fires a node is rebuilt plainly
pub rebuilt_plainly : (m : Mode) (l : Lent) (ns : List Node) (i : ℕ) (c : List ℕ) → firing m l ns (at ns i).kind c ≡ none → rebuilt l ns i c none ≡ rebuild_as m l ns i c
rebuilt_plainly m l ns i c e =
    ap (rebuilt l ns i c) (sym ((exactly m l ns (at ns i).kind c).0 e)) ∙ rebuilt_as m l ns i c
