-- Chains and their kept terms in a store that grows.
use Prim.Native.Nat.{ℕ, suc, ◌<◌}
use mathlib.Core.Path.{◌≡◌, refl, sym, ap, ◌∙◌, subst}
use mathlib.Core.Bool.{Bool, true, false, cond, true≢false}
use mathlib.Core.List.{List, [], ◌∷◌, map}
use mathlib.Core.Option.{Option, none, some}
use lib.ListN.{length}
use native.Mathlib.Omega.{arith}
use lib.Dec.{T}
use lib.Ieee.{Float, nan, inf, fin, binary64, of_bits, le}
use Rattle.definitions.specs.Node.{Node, at}
use Rattle.definitions.specs.Patterns.{constant_value}
use Rattle.definitions.specs.Prune.{flatten, chain, magnitude, keeps, filter}
use Rattle.definitions.specs.Formula.{formula}
use Rattle.definitions.specs.Chain.{terms}
use Rattle.definitions.proofs.Intern.{Sound, Inj, T_true}
use Rattle.definitions.proofs.Prune.{Flat, terms_ok, Clear}
use Rattle.pruned_again.proofs.Regrown.{Ext, ext_at}
use Rattle.pruned_again.proofs.Order.{le_up}

-- ---- a chain is known by its formulas
map_inj : (ns : List Node) → Inj ns → (xs ys : List ℕ) → Flat ns xs → Flat ns ys → map (formula ns) xs ≡ map (formula ns) ys → xs ≡ ys
map_inj ns u [] [] a b e = refl
map_inj ns u [] (y ∷ ys) a b e = let z : ◌≡◌ {A = ℕ} 0 1 = cc in absurd (omega arith)
map_inj ns u (x ∷ xs) [] a b e = let z : ◌≡◌ {A = ℕ} 0 1 = cc in absurd (omega arith)
map_inj ns u (x ∷ xs) (y ∷ ys) a b e =
    let e1 : formula ns x ≡ formula ns y = cc in
    let e2 : map (formula ns) xs ≡ map (formula ns) ys = cc in
    let p = u x y a.0.0 b.0.0 e1 in
    let q = map_inj ns u xs ys a.1 b.1 e2 in
    cc

pub chain_is : (ns : List Node) → Sound ns → Inj ns → (i : ℕ) → i < length ns → (ts : List ℕ) → Flat ns ts → terms (formula ns i) ≡ map (formula ns) ts → chain ns i ≡ ts
unfolding chain
chain_is ns s u i h ts f e = let q = terms_ok ns s (suc i) i (omega arith) h in map_inj ns u (flatten (suc i) ns i) ts q.flat f (q.same ∙ e)

module _ (ns : List Node) (i : ℕ) (s : Sound ns) (h : i < length ns) where
  pub flat_chain : Flat ns (chain ns i)
  unfolding chain
  flat_chain = (terms_ok ns s (suc i) i (omega arith) h).flat

  pub same_chain : map (formula ns) (chain ns i) ≡ terms (formula ns i)
  unfolding chain
  same_chain = (terms_ok ns s (suc i) i (omega arith) h).same

-- ---- which terms are kept
abbrev pub kept_ids : List Node → ℕ → ℕ → List ℕ
kept_ids ns i t = filter (keeps ns (of_bits binary64 t)) (chain ns i)

keeps_ext : (ns ms : List Node) → Ext ns ms → (t : Float) (x : ℕ) → x < length ns → keeps ms t x ≡ keeps ns t x
unfolding keeps
keeps_ext ns ms e t x h = ap (λ n. le t (magnitude (constant_value n))) (ext_at ns ms e x h)

pub filter_ext : (ns ms : List Node) → Ext ns ms → (t : Float) (ts : List ℕ) → Flat ns ts → filter (keeps ms t) ts ≡ filter (keeps ns t) ts
filter_ext ns ms e t [] f = refl
filter_ext ns ms e t (x ∷ ts) f = let a = keeps_ext ns ms e t x f.0.0 in let b = filter_ext ns ms e t ts f.1 in λ i. cond (a i) (x ∷ b i) (b i)

pub filter_filter : (p q : ℕ → Bool) → ((x : ℕ) → T (q x) → p x ≡ true) → (ts : List ℕ) → filter q (filter p ts) ≡ filter q ts
filter_filter p q h [] = refl
filter_filter p q h (x ∷ ts) = go (p x) (q x) refl refl (filter_filter p q h ts)
  where
    go : (b c : Bool) → p x ≡ b → q x ≡ c → filter q (filter p ts) ≡ filter q ts → filter q (cond b (x ∷ filter p ts) (filter p ts)) ≡ cond c (x ∷ filter q ts) (filter q ts)
    go true true e f ih = ap (λ c. cond c (x ∷ filter q (filter p ts)) (filter q (filter p ts))) f ∙ ap (λ l. x ∷ l) ih
    go true false e f ih = ap (λ c. cond c (x ∷ filter q (filter p ts)) (filter q (filter p ts))) f ∙ ih
    go false true e f ih = absurd (true≢false (sym (h x (subst T (sym f) tt)) ∙ e))
    go false false e f ih = ih

size_clear : (o : Option Float) → Clear (magnitude o)
size_clear none = refl
size_clear (some nan) = tt
size_clear (some (inf s)) = refl
size_clear (some (fin s m e)) = refl

-- what is kept at u is kept at t, which is not above u
pub keeps_up : (ns : List Node) (t u : Float) → Clear t → Clear u → T (le t u) → (x : ℕ) → T (keeps ns u x) → keeps ns t x ≡ true
unfolding keeps
keeps_up ns t u a b p x k = T_true (le t (magnitude (constant_value (at ns x)))) (le_up t u (magnitude (constant_value (at ns x))) a b (size_clear (constant_value (at ns x))) p k)
