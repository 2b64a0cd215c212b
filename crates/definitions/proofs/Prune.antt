-- Pruning: the terms, the balanced sum, and the balance of values.
use Prim.Native.Nat.{ℕ, zero, suc, ◌+◌, ◌-◌, ◌*◌, ◌/◌, ◌%◌, ◌^◌, ◌<◌, ◌≤◌, zero-le, compare, Ordering}
use mathlib.Core.Path.{◌≡◌, refl, sym, ap, ◌∙◌, subst, subst₂}
use mathlib.Core.Bool.{Bool, true, false, cond, ◌||◌, ◌&&◌, not, false≢true, true≢false}
use mathlib.Core.List.{List, [], ◌∷◌, ◌++◌, map, append_assoc, append-nil}
use mathlib.Core.Option.{Option, none, some}
use lib.ListN.{length, get_or, take, drop, length-append, take-append-drop, length-take, length-drop}
use native.Mathlib.Omega.{arith}
use native.Mathlib.Nat.{pow-suc}
use borrow.Author.Tests.{ltb-true, ltb-false, eqb-true, eqb-false, lt-leb, leb-true}
use lib.Dec.{T, eqb, leb, ltb, eqb→eq, is_le, compare_is_eq}
use lib.IntN.{pos}
use lib.Ieee.{Float, nan, inf, fin, binary64, of_bits, of_fields, odd, hid, top, to_bits, lt, eq, le, up, down}
use lib.Ieee.Exact.{HasValue, odd_sign}
use lib.Pow.{pow_pos}
use Rattle.definitions.specs.Node.{Node, node, at}
use Rattle.definitions.specs.Intern.{Built, built, stopped, Lent, then}
use Rattle.definitions.specs.Patterns.{intern_constant, intern_add, constant_value, finite, zero64, one64}
use Rattle.definitions.specs.Prune.{concat, flatten, absolute, magnitude, keeps, filter, balanced_add, chain}
use Rattle.definitions.specs.Formula.{Tree, tree, Forest, nil, cons, forest, formula}
use Rattle.definitions.specs.Dyadic.{Dyadic, plus, zero_value}
use Rattle.definitions.specs.Value.{Reading, apply, sum_of, value_of, values_of}
use Rattle.definitions.specs.Exact.{Exact, ExactAll, exact_kind}
use Rattle.definitions.specs.Chain.{terms, terms_all, is_add, chain_of, below_threshold, dropped, kept, Remains}
use Rattle.definitions.specs.Promise.{Balanced}
use Rattle.definitions.proofs.Stable.{Lower, opened}
use Rattle.definitions.proofs.Intern.{Fit, Sound, Step, Result, stay, trans, lower_up}
use Rattle.definitions.proofs.Numbers.{plus_comm, plus_assoc, plus_zero_lem, zero_plus}
use Rattle.definitions.proofs.Trees.{binary}
use Rattle.definitions.proofs.Patterns.{result_map, result_then, added}

-- ---- lists
map_append : {A B : Type 0} (f : A → B) (xs ys : List A) → map f (xs ++ ys) ≡ map f xs ++ map f ys
map_append f [] ys = refl
map_append f (x ∷ xs) ys = ap (λ l. f x ∷ l) (map_append f xs ys)

-- ---- sums
pub sum_append : (xs ys : List Dyadic) → sum_of (xs ++ ys) ≡ plus (sum_of xs) (sum_of ys)
sum_append [] ys = sym (zero_plus (sum_of ys))
sum_append (x ∷ xs) ys = ap (plus x) (sum_append xs ys) ∙ sym (plus_assoc x (sum_of xs) (sum_of ys))

sum_node : (k p f : ℕ) (c : Forest) (r : Reading) (b : Bool) → eqb k 2 ≡ b → sum_of (map (value_of r) (terms_all c)) ≡ sum_of (values_of r c)
    → sum_of (map (value_of r) (cond b (terms_all c) (tree k p f c ∷ []))) ≡ value_of r (tree k p f c)
unfolding value_of
sum_node k p f c r true e ih = ih ∙ ap (λ j. apply r j p (values_of r c)) (sym (eqb→eq k 2 (subst T (sym e) tt)))
sum_node k p f c r false e ih = plus_zero_lem (value_of r (tree k p f c))

mutual
  unfolding terms value_of

  pub sum_terms : (t : Tree) (r : Reading) → sum_of (map (value_of r) (terms t)) ≡ value_of r t
  sum_terms (tree k p f c) r = sum_node k p f c r (eqb k 2) refl (sum_all c r)

  pub sum_all : (c : Forest) (r : Reading) → sum_of (map (value_of r) (terms_all c)) ≡ sum_of (values_of r c)
  sum_all nil r = refl
  sum_all (cons t c) r =
      ap sum_of (map_append (value_of r) (terms t) (terms_all c)) ∙ sum_append (map (value_of r) (terms t)) (map (value_of r) (terms_all c))
      ∙ ap (λ v. plus v (sum_of (map (value_of r) (terms_all c)))) (sum_terms t r) ∙ ap (plus (value_of r t)) (sum_all c r)

-- kept and dropped terms make up the sum, and the count
pub split_sum : {A : Type 0} (v : A → Dyadic) (q : A → Bool) (ts : List A)
    → sum_of (map v ts) ≡ plus (sum_of (map v (filter (λ x. not (q x)) ts))) (sum_of (map v (filter q ts)))
split_sum v q [] = sym (plus_zero_lem zero_value)
split_sum {A = A} v q (x ∷ ts) = go (q x) (split_sum v q ts)
  where
    K : List A
    K = filter (λ y. not (q y)) ts

    D : List A
    D = filter q ts

    go : (b : Bool) → sum_of (map v ts) ≡ plus (sum_of (map v K)) (sum_of (map v D))
        → plus (v x) (sum_of (map v ts)) ≡ plus (sum_of (map v (cond (not b) (x ∷ K) K))) (sum_of (map v (cond b (x ∷ D) D)))
    go true e =
        ap (plus (v x)) e ∙ sym (plus_assoc (v x) (sum_of (map v K)) (sum_of (map v D))) ∙ ap (λ w. plus w (sum_of (map v D))) (plus_comm (v x) (sum_of (map v K)))
        ∙ plus_assoc (sum_of (map v K)) (v x) (sum_of (map v D))
    go false e = ap (plus (v x)) e ∙ sym (plus_assoc (v x) (sum_of (map v K)) (sum_of (map v D)))

pub split_length : {A : Type 0} (q : A → Bool) (ts : List A) → length ts ≡ length (filter (λ x. not (q x)) ts) + length (filter q ts)
split_length q [] = refl
split_length {A = A} q (x ∷ ts) = go (q x) (split_length q ts)
  where
    K : List A
    K = filter (λ y. not (q y)) ts

    D : List A
    D = filter q ts

    go : (b : Bool) → length ts ≡ length K + length D → suc (length ts) ≡ length (cond (not b) (x ∷ K) K) + length (cond b (x ∷ D) D)
    go true e = omega arith
    go false e = omega arith

-- ---- the machine's terms are the formula's
abbrev pub Flat : List Node → List ℕ → Type 0
Flat ns [] = Unit {0}
Flat ns (x ∷ xs) = ((x < length ns) × (is_add (formula ns x) ≡ false)) × Flat ns xs

flat_append : (ns : List Node) (xs ys : List ℕ) → Flat ns xs → Flat ns ys → Flat ns (xs ++ ys)
flat_append ns [] ys a b = b
flat_append ns (x ∷ xs) ys a b = (a.0, flat_append ns xs ys a.1 b)

pub record Terms (ns : List Node) (ts : List ℕ) (t : List Tree) : Type 0 where
  pub same : map (formula ns) ts ≡ t
  pub flat : Flat ns ts

terms_children : (ns : List Node) (n : ℕ) (g : ℕ → List ℕ) → ((k : ℕ) → k < n → Terms ns (g k) (terms (formula ns k))) → (ks : List ℕ) → Lower n ks
    → Terms ns (concat (map g ks)) (terms_all (forest (formula ns) ks))
unfolding terms
terms_children ns n g h [] l = record { same = refl; flat = tt }
terms_children ns n g h (k ∷ ks) l =
    let a = h k l.0 in
    let b = terms_children ns n g h ks l.1 in
    record {
      same = map_append (formula ns) (g k) (concat (map g ks)) ∙ ap (λ x. x ++ map (formula ns) (concat (map g ks))) a.same ∙ ap (λ x. terms (formula ns k) ++ x) b.same;
      flat = flat_append ns (g k) (concat (map g ks)) a.flat b.flat;
    }

pub terms_ok : (ns : List Node) → Sound ns → (d i : ℕ) → i < d → i < length ns → Terms ns (flatten d ns i) (terms (formula ns i))
unfolding flatten terms
terms_ok ns s zero i h hi = absurd (omega arith)
terms_ok ns s (suc d) i h hi = go (eqb n.kind 2) refl (λ k hk. terms_ok ns s d k (omega arith) (omega arith))
  where
    n : Node
    n = at ns i

    is : formula ns i ≡ tree n.kind n.payload n.flags (forest (formula ns) n.children)
    is = opened ns i hi (s i hi).low

    there : (b : Bool) → eqb n.kind 2 ≡ b → terms (formula ns i) ≡ cond b (terms_all (forest (formula ns) n.children)) (formula ns i ∷ [])
    there true e = ap terms is ∙ ap (λ b. cond b (terms_all (forest (formula ns) n.children)) (tree n.kind n.payload n.flags (forest (formula ns) n.children) ∷ [])) e
    there false e = ap terms is ∙ ap (λ b. cond b (terms_all (forest (formula ns) n.children)) (tree n.kind n.payload n.flags (forest (formula ns) n.children) ∷ [])) e ∙ ap (λ t. t ∷ []) (sym is)

    go : (b : Bool) → eqb n.kind 2 ≡ b → ((k : ℕ) → k < i → Terms ns (flatten d ns k) (terms (formula ns k)))
        → Terms ns (elim b [ true ↦ concat (map (flatten d ns) n.children) | false ↦ i ∷ [] ]) (terms (formula ns i))
    go true e ih =
        subst (Terms ns (concat (map (flatten d ns) n.children))) (sym (there true e)) (terms_children ns i (flatten d ns) ih n.children (s i hi).low)
    go false e ih = record { same = sym (there false e); flat = ((hi, ap is_add is ∙ e), tt) }

-- ---- the balanced sum
flat_terms : (t : Tree) → is_add t ≡ false → terms t ≡ t ∷ []
unfolding terms
flat_terms (tree k p f c) e = ap (λ b. cond b (terms_all c) (tree k p f c ∷ [])) e

-- terms stay terms, with their formulas, in a store that has grown
pub flat_up : (ns ms : List Node) → Step ns ms → (ts : List ℕ) → Flat ns ts → Flat ms ts
flat_up ns ms st [] f = tt
flat_up ns ms st (x ∷ ts) f = ((omega (arith, f.0.0, st.longer), ap is_add (st.kept x f.0.0) ∙ f.0.1), flat_up ns ms st ts f.1)

pub map_up : (ns ms : List Node) → Step ns ms → (ts : List ℕ) → Flat ns ts → map (formula ms) ts ≡ map (formula ns) ts
map_up ns ms st [] f = refl
map_up ns ms st (x ∷ ts) f = let a = st.kept x f.0.0 in let b = map_up ns ms st ts f.1 in cc

flat_left : (ns : List Node) (xs ys : List ℕ) → Flat ns (xs ++ ys) → Flat ns xs
flat_left ns [] ys f = tt
flat_left ns (x ∷ xs) ys f = (f.0, flat_left ns xs ys f.1)

flat_right : (ns : List Node) (xs ys : List ℕ) → Flat ns (xs ++ ys) → Flat ns ys
flat_right ns [] ys f = f
flat_right ns (x ∷ xs) ys f = flat_right ns xs ys f.1

sum_two : (a b : Tree) → terms (binary 2 0 3 a b) ≡ terms a ++ terms b
unfolding terms
sum_two a b = ap (λ l. terms a ++ l) (append-nil (terms b))

pub balances : (d : ℕ) (l : Lent) (ns : List Node) (ts : List ℕ) → Sound ns → Flat ns ts → 0 < length ts → length ts ≤ 2 ^ d
    → Result ns (λ ms i. terms (formula ms i) ≡ map (formula ns) ts) (balanced_add (suc d) l ns ts)
unfolding balanced_add
balances zero l ns [] s f h k = absurd (omega arith)
balances zero l ns (a ∷ []) s f h k = (stay ns s, f.0.0, flat_terms (formula ns a) f.0.1)
balances zero l ns (a ∷ b ∷ r) s f h k = absurd (omega arith)
balances (suc d) l ns [] s f h k = absurd (omega arith)
balances (suc d) l ns (a ∷ []) s f h k = (stay ns s, f.0.0, flat_terms (formula ns a) f.0.1)
balances (suc d) l ns (a ∷ b ∷ r) s f h k =
    let ts = a ∷ b ∷ r in
    let n = length ts / 2 in
    let u = take n ts in
    let w = drop n ts in
    let e : u ++ w ≡ ts = take-append-drop n ts in
    let fu : Flat ns u = flat_left ns u w (subst (Flat ns) (sym e) f) in
    let fw : Flat ns w = flat_right ns u w (subst (Flat ns) (sym e) f) in
    let p : 2 ^ suc d ≡ 2 ^ d * 2 = pow-suc 2 d in
    let lu = length-take n ts in
    let lw = length-drop n ts in
    result_then ns (λ ms i. terms (formula ms i) ≡ map (formula ns) u) (λ ms i. terms (formula ms i) ≡ map (formula ns) ts) (balanced_add (suc d) l ns u)
    (λ ms x. then (balanced_add (suc d) l ms w) (λ os y. intern_add l os x y))
    (λ ms x st hx ex.
    result_then ms (λ os y. terms (formula os y) ≡ map (formula ms) w) (λ os y. terms (formula os y) ≡ map (formula ns) ts) (balanced_add (suc d) l ms w) (λ os y. intern_add l os x y)
    (λ os y st' hy ey.
    result_map os (λ qs j. formula qs j ≡ binary 2 0 3 (formula os x) (formula os y)) (λ qs j. terms (formula qs j) ≡ map (formula ns) ts) (intern_add l os x y)
    (λ qs j st'' ej.
    ap terms ej ∙ sum_two (formula os x) (formula os y)
    ∙ ap (λ t. terms t ++ terms (formula os y)) (st'.kept x hx) ∙ ap (λ t. t ++ terms (formula os y)) ex
    ∙ ap (λ t. map (formula ns) u ++ t) (ey ∙ map_up ns ms st w fw)
    ∙ sym (map_append (formula ns) u w) ∙ ap (map (formula ns)) e)
    (added l os x y st'.sound (omega (arith, hx, st'.longer)) hy))
    (balances d l ms w st.sound (flat_up ns ms st w fw) (omega arith) (omega arith)))
    (balances d l ns u s fu (omega arith) (omega arith))

-- ---- which terms are kept
abbrev pub ExactEach : List Tree → Type 0
ExactEach [] = Unit {0}
ExactEach (t ∷ ts) = Exact t × ExactEach ts

each_append : (xs ys : List Tree) → ExactEach xs → ExactEach ys → ExactEach (xs ++ ys)
each_append [] ys a b = b
each_append (x ∷ xs) ys a b = (a.0, each_append xs ys a.1 b)

exact_node : (k p f : ℕ) (c : Forest) (b : Bool) → Exact (tree k p f c) → ExactEach (terms_all c) → ExactEach (cond b (terms_all c) (tree k p f c ∷ []))
exact_node k p f c true x h = h
exact_node k p f c false x h = (x, tt)

mutual
  unfolding terms Exact

  pub exact_terms : (t : Tree) → Exact t → ExactEach (terms t)
  exact_terms (tree k p f c) x = exact_node k p f c (eqb k 2) x (exact_all c x.2)

  pub exact_all : (c : Forest) → ExactAll c → ExactEach (terms_all c)
  exact_all nil x = tt
  exact_all (cons t c) x = each_append (terms t) (terms_all c) (exact_terms t x.0) (exact_all c x.1)

-- a test of order and its opposite
order : (a b : ℕ) → (ltb a b || (eqb a b && true)) ≡ not (ltb b a)
order a b = go (ltb a b) (eqb a b) (ltb b a) refl refl refl
  where
    go : (x y z : Bool) → ltb a b ≡ x → eqb a b ≡ y → ltb b a ≡ z → (x || (y && true)) ≡ not z
    go true y true e f g = absurd (omega (arith, ltb-true a b e, ltb-true b a g))
    go true y false e f g = refl
    go false true true e f g = absurd (omega (arith, eqb-true a b f, ltb-true b a g))
    go false true false e f g = refl
    go false false true e f g = refl
    go false false false e f g = absurd (eqb-false a b f (omega (arith, ltb-false a b e, ltb-false b a g)))

le_not_lt : (t y : Float) (m n : ℕ) (d e : lib.IntN.ℤ) → t ≡ fin false m d → y ≡ fin false n e → le t y ≡ not (lt y t)
unfolding le lt eq
le_not_lt t y m n d e et ey =
    subst₂ (λ u v. le u v ≡ not (lt v u)) (sym et) (sym ey) (order (m * up d * down e) (n * up e * down d))

-- a threshold: a finite number with no sign, at most 1
pub record SmallThreshold (t : Float) : Type 0 where
  pub m : ℕ
  pub e : lib.IntN.ℤ
  pub is : t ≡ fin false m e
  pub most : le t one64 ≡ true

abs_is : (x : Float) → T (finite x) → (n : ℕ) × (e : lib.IntN.ℤ) × (absolute x ≡ fin false n e)
abs_is nan h = absurd h
abs_is (inf b) h = absurd h
abs_is (fin b n e) h = (n, e, refl)

keeps_is : (ns : List Node) → Sound ns → (t : Float) → SmallThreshold t → (x : ℕ) → x < length ns → Exact (formula ns x) → keeps ns t x ≡ not (below_threshold t (formula ns x))
unfolding keeps constant_value below_threshold Exact
keeps_is ns s t th x h ex = go (eqb n.kind 1) refl ∙ ap (λ u. not (below_threshold t u)) (sym is)
  where
    n : Node
    n = at ns x

    is : formula ns x ≡ tree n.kind n.payload n.flags (forest (formula ns) n.children)
    is = opened ns x h (s x h).low

    v : Float
    v = of_bits binary64 n.payload

    isfin : eqb n.kind 1 ≡ true → T (finite v)
    isfin e = (subst (λ k. Exact (tree k n.payload n.flags (forest (formula ns) n.children))) (eqb-true n.kind 1 e) (subst Exact is ex)).1

    go : (b : Bool) → eqb n.kind 1 ≡ b → le t (magnitude (cond b (some v) none)) ≡ not (b && lt (absolute v) t)
    go true e = let a = abs_is v (isfin e) in le_not_lt t (absolute v) th.m a.0 th.e a.1 th.is a.2
    go false e = th.most

-- the machine keeps what the formulas say
pub kept_is : (ns : List Node) → Sound ns → (t : Float) → SmallThreshold t → (ts : List ℕ) → Flat ns ts → ExactEach (map (formula ns) ts)
    → map (formula ns) (filter (keeps ns t) ts) ≡ filter (λ u. not (below_threshold t u)) (map (formula ns) ts)
kept_is ns s t th [] f x = refl
kept_is ns s t th (i ∷ ts) f x = go (keeps ns t i) (not (below_threshold t (formula ns i))) (keeps_is ns s t th i f.0.0 x.0) (kept_is ns s t th ts f.1 x.1)
  where
    K : List ℕ
    K = filter (keeps ns t) ts

    D : List Tree
    D = filter (λ u. not (below_threshold t u)) (map (formula ns) ts)

    go : (b c : Bool) → b ≡ c → map (formula ns) K ≡ D → map (formula ns) (cond b (i ∷ K) K) ≡ cond c (formula ns i ∷ D) D
    go true true e ih = ap (λ l. formula ns i ∷ l) ih
    go true false e ih = absurd (true≢false e)
    go false true e ih = absurd (false≢true e)
    go false false e ih = ih

pub flat_filter : (ns : List Node) (q : ℕ → Bool) (ts : List ℕ) → Flat ns ts → Flat ns (filter q ts)
flat_filter ns q [] f = tt
flat_filter ns q (x ∷ ts) f = go (q x) (flat_filter ns q ts f.1)
  where
    go : (b : Bool) → Flat ns (filter q ts) → Flat ns (cond b (x ∷ filter q ts) (filter q ts))
    go true g = (f.0, g)
    go false g = g

pub filter_length : (q : ℕ → Bool) (ts : List ℕ) → length (filter q ts) ≤ length ts
filter_length q [] = zero-le
filter_length q (x ∷ ts) = go (q x) (filter_length q ts)
  where
    go : (b : Bool) → length (filter q ts) ≤ length ts → length (cond b (x ∷ filter q ts) (filter q ts)) ≤ suc (length ts)
    go true h = omega arith
    go false h = omega arith

-- ---- a threshold whose sign bit is clear
no_nan : T (le nan one64) → ⊥
unfolding le lt eq
no_nan t = t

no_inf : (b : Bool) → b ≡ false → T (le (inf b) one64) → ⊥
unfolding le lt eq
no_inf true e t = true≢false e
no_inf false e t = t

pub T-is : (b : Bool) → T b → b ≡ true
T-is true t = refl
T-is false t = absurd t

abbrev pub Clear : Float → Type 0
Clear nan = Unit {0}
Clear (inf b) = b ≡ false
Clear (fin b m e) = b ≡ false

clear_value : (x : Float) (a c : ℕ) → HasValue x false a c → Clear x
clear_value nan a c h = tt
clear_value (inf b) a c h = absurd h
clear_value (fin b m e) a c h = h.0

clear_fields : (x t : ℕ) → Clear (of_fields binary64 false x t)
unfolding of_fields
clear_fields zero t = clear_value (odd 53 false t 0 1074) (t * 2 ^ 0) (2 ^ 1074) (odd_sign 53 false t 0 1074)
clear_fields (suc x) t = go (eqb (suc x) 2047) (eqb t 0)
  where
    go : (b c : Bool) → Clear (cond b (cond c (inf false) nan) (odd 53 false (hid binary64 + t) x 1074))
    go true true = refl
    go true false = tt
    go false c = clear_value (odd 53 false (hid binary64 + t) x 1074) ((hid binary64 + t) * 2 ^ x) (2 ^ 1074) (odd_sign 53 false (hid binary64 + t) x 1074)

pub clear_bits : (b : ℕ) → b ≤ 0x7FF0000000000000 → Clear (of_bits binary64 b)
unfolding of_bits
clear_bits b h = subst (λ s. Clear (of_fields binary64 s (b % top binary64 / hid binary64) (b % hid binary64))) (sym (lt-leb (top binary64) b (omega arith))) (clear_fields (b % top binary64 / hid binary64) (b % hid binary64))

pub threshold_of : (b : ℕ) → b ≤ 0x7FF0000000000000 → T (le (of_bits binary64 b) one64) → SmallThreshold (of_bits binary64 b)
unfolding of_bits
threshold_of b h t = go (of_bits binary64 b) (subst (λ s. Clear (of_fields binary64 s (b % top binary64 / hid binary64) (b % hid binary64))) (sym sign) (clear_fields (b % top binary64 / hid binary64) (b % hid binary64))) t
  where
    sign : leb (top binary64) b ≡ false
    sign = lt-leb (top binary64) b (omega arith)

    go : (x : Float) → Clear x → T (le x one64) → SmallThreshold x
    go nan c t = absurd (no_nan t)
    go (inf b) c t = absurd (no_inf b c t)
    go (fin b m e) c t = record { m = m; e = e; is = ap (λ s. fin s m e) c; most = T-is (le (fin b m e) one64) t }
