-- No later call changes the formula of an id.
use Prim.Native.Nat.{ℕ, zero, suc, ◌+◌, ◌<◌, ◌≤◌, zero-le, suc-le-suc}
use mathlib.Core.Path.{◌≡◌, refl, sym, ap, ◌∙◌, subst}
use mathlib.Core.Bool.{Bool, true, false}
use mathlib.Core.List.{List, [], ◌∷◌, ◌++◌, append_assoc}
use mathlib.Core.Logic.{inl, inr}
use lib.ListN.{length, get_or, set, take, drop, length-append, length-take, get_or-append}
use lib.Seq.{split_at, get_or-append_seam, length-take-le}
use native.Mathlib.Omega.{arith}
use native.Mathlib.Nat.{lt_of_lt_of_le, le_trans, le_refl, eq-or-lt_of_le}
use Rattle.definitions.specs.Node.{Node, node, at, blank}
use Rattle.definitions.specs.Walk.{Mode, marked}
use Rattle.definitions.specs.Formula.{Tree, tree, Forest, nil, cons, forest, formula_at, formula_of, formulas, formula, no_formula}

forms_append : (ts : List Tree) (ns ms : List Node) → formulas ts (ns ++ ms) ≡ formulas (formulas ts ns) ms
unfolding formulas
forms_append ts [] ms = refl
forms_append ts (n ∷ ns) ms = forms_append (ts ++ formula_of ts n ∷ []) ns ms

-- the trees so far stay
forms_old : (ts : List Tree) (ns : List Node) (i : ℕ) → i < length ts → formula_at (formulas ts ns) i ≡ formula_at ts i
unfolding formulas
forms_old ts [] i h = refl
forms_old ts (n ∷ ns) i h =
    let t = formula_of ts n in
    forms_old (ts ++ t ∷ []) ns i (omega (arith, length-append ts (t ∷ []))) ∙ get_or-append ts (t ∷ []) no_formula i h

forms_length : (ts : List Tree) (ns : List Node) → length (formulas ts ns) ≡ length ts + length ns
unfolding formulas
forms_length ts [] = omega arith
forms_length ts (n ∷ ns) = omega (arith, forms_length (ts ++ formula_of ts n ∷ []) ns, length-append ts (formula_of ts n ∷ []))

pub stable : (ns ms : List Node) (i : ℕ) → i < length ns → formula (ns ++ ms) i ≡ formula ns i
unfolding formula
stable ns ms i h =
    ap (λ (ts : List Tree). formula_at ts i) (forms_append [] ns ms)
    ∙ forms_old (formulas [] ns) ms i (omega (arith, forms_length [] ns))

-- a mark changes no formula
forms_mark : (p : Mode) (ts : List Tree) (ns : List Node) (i : ℕ) → formulas ts (set ns i (marked p (at ns i))) ≡ formulas ts ns
unfolding formulas
forms_mark p ts [] i = refl
forms_mark p ts (n ∷ ns) zero = refl
forms_mark p ts (n ∷ ns) (suc i) = forms_mark p (ts ++ formula_of ts n ∷ []) ns i

pub marking : (p : Mode) (ns : List Node) (i j : ℕ) → formula (set ns i (marked p (at ns i))) j ≡ formula ns j
unfolding formula
marking p ns i j = ap (λ (ts : List Tree). formula_at ts j) (forms_mark p [] ns i)

-- all of a list lie below a number
abbrev pub Lower : ℕ → List ℕ → Type 0
Lower n [] = Unit {0}
Lower n (k ∷ ks) = (k < n) × Lower n ks

pub grow_cong : (f g : ℕ → Tree) (n : ℕ) → ((k : ℕ) → k < n → f k ≡ g k) → (ks : List ℕ) → Lower n ks → forest f ks ≡ forest g ks
grow_cong f g n h [] l = refl
grow_cong f g n h (k ∷ ks) l = let e = h k l.0 in let r = grow_cong f g n h ks l.1 in cc

-- a formula over the formulas of its children
pub opened : (ns : List Node) (i : ℕ) → i < length ns → Lower i (at ns i).children
    → formula ns i ≡ tree (at ns i).kind (at ns i).payload (at ns i).flags (forest (formula ns) (at ns i).children)
unfolding formula formulas
opened ns i h l =
    let n = at ns i in
    let ps = take i ns in
    let ts = formulas [] ps in
    let el : length ts ≡ i = forms_length [] ps ∙ omega (arith, length-take-le i ns (omega arith)) in
    let whole : formulas [] ns ≡ formulas (ts ++ formula_of ts n ∷ []) (drop (suc i) ns)
    = ap (formulas []) (split_at ns i blank h) ∙ forms_append [] ps (n ∷ drop (suc i) ns) in
    let here : formula ns i ≡ formula_of ts n
    = ap (λ (x : List Tree). formula_at x i) whole
    ∙ forms_old (ts ++ formula_of ts n ∷ []) (drop (suc i) ns) i (omega (arith, length-append ts (formula_of ts n ∷ []), el))
    ∙ ap (λ (k : ℕ). formula_at (ts ++ formula_of ts n ∷ []) k) (sym el) ∙ get_or-append_seam ts (formula_of ts n) [] no_formula in
    let below : (k : ℕ) → k < i → formula_at ts k ≡ formula ns k
    = λ k hk. sym (ap (λ (x : List Tree). formula_at x k) whole
    ∙ forms_old (ts ++ formula_of ts n ∷ []) (drop (suc i) ns) k (omega (arith, length-append ts (formula_of ts n ∷ []), el))
    ∙ get_or-append ts (formula_of ts n ∷ []) no_formula k (omega (arith, el))) in
    here ∙ ap (tree n.kind n.payload n.flags) (grow_cong (formula_at ts) (formula ns) i below n.children l)
