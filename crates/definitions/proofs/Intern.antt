-- Interning a node: what it answers has the node's formula, and no older formula changes.
use Prim.Native.Nat.{ℕ, zero, suc, ◌+◌, ◌<◌, ◌≤◌, zero-le, suc-le-suc}
use mathlib.Core.Path.{◌≡◌, refl, sym, ap, ◌∙◌, subst}
use mathlib.Core.Bool.{Bool, true, false, ◌&&◌, ◌||◌}
use mathlib.Core.List.{List, [], ◌∷◌, ◌++◌}
use mathlib.Core.Option.{Option, none, some}
use mathlib.Core.Logic.{inl, inr}
use lib.ListN.{length, get_or, set, length-append, length-set, get_or-append}
use lib.Seq.{get_or-append_seam, get_or-set_same, get_or-set_other}
use lib.Dec.{T, eqb, eqb→eq, eqb_refl, ltb, ltb→lt, nltb→le}
use lib.Ieee.Fits.{and_l, and_r}
use native.Mathlib.Omega.{arith}
use native.Mathlib.Decide.{ℕ_discrete}
use native.Mathlib.Nat.{lt_irrefl, not-suc-le-zero, le_of_suc-le-suc, add-zero, add-suc}
use Rattle.definitions.specs.Node.{Node, node, at, blank, same_children, same, nan_constant}
use Rattle.definitions.specs.Intern.{find, Built, built, stopped, Lent, no_place, add_new, found_or_new, intern, then}
use Rattle.definitions.specs.Walk.{Mode, marked}
use Rattle.definitions.specs.Formula.{Tree, tree, Forest, nil, cons, forest, formula_at, formula_of, formulas, formula}
use Rattle.definitions.proofs.Stable.{stable, marking, Lower, opened, grow_cong}

-- a node fit for the id i: its children lie below, a sum has some, and a constant is no NaN
pub record Fit (i : ℕ) (n : Node) : Type 0 where
  pub low : Lower i n.children
  pub filled : T (eqb n.kind 2 || eqb n.kind 3) → 0 < length n.children
  pub number : nan_constant n.kind n.payload ≡ false

abbrev pub Sound : List Node → Type 0
Sound ns = (i : ℕ) → i < length ns → Fit i (at ns i)

-- no two nodes are one: no two ids have one formula
abbrev pub Inj : List Node → Type 0
Inj ns = (i j : ℕ) → i < length ns → j < length ns → formula ns i ≡ formula ns j → i ≡ j

pub record Step (ns ms : List Node) : Type 0 where
  pub longer : length ns ≤ length ms
  pub kept : (i : ℕ) → i < length ns → formula ms i ≡ formula ns i
  pub children : (i : ℕ) → i < length ns → (at ms i).children ≡ (at ns i).children
  pub sound : Sound ms
  pub one : Inj ns → Inj ms

abbrev pub Result : List Node → (List Node → ℕ → Type 0) → Built → Type 0
Result ns Q (built ms i) = Step ns ms × (i < length ms) × Q ms i
Result ns Q (stopped ms r) = Step ns ms

abbrev pub over : List Node → Node → Tree
over ns n = tree n.kind n.payload n.flags (forest (formula ns) n.children)

pub stay : (ns : List Node) → Sound ns → Step ns ns
stay ns s = record { longer = omega arith; kept = λ i h. refl; children = λ i h. refl; sound = s; one = λ u. u }

pub trans : {ns ms os : List Node} → Step ns ms → Step ms os → Step ns os
trans {ns} {ms} {os} p q = record {
  longer = omega (arith, p.longer, q.longer);
  kept = λ i h. q.kept i (omega (arith, p.longer)) ∙ p.kept i h;
  children = λ i h. q.children i (omega (arith, p.longer)) ∙ p.children i h;
  sound = q.sound;
  one = λ u. q.one (p.one u);
}

pub lower_up : (n m : ℕ) → n ≤ m → (ks : List ℕ) → Lower n ks → Lower m ks
lower_up n m h [] l = tt
lower_up n m h (k ∷ ks) l = (omega (arith, l.0), lower_up n m h ks l.1)

-- ---- the tests
pub T_and : (a b : Bool) → T a → T b → T (a && b)
T_and true b x y = y
T_and false b x y = absurd x

pub T_true : (b : Bool) → T b → b ≡ true
T_true true t = refl
T_true false t = absurd t

pub same_children_eq : (a b : List ℕ) → T (same_children a b) → a ≡ b
same_children_eq [] [] t = refl
same_children_eq [] (y ∷ b) t = absurd t
same_children_eq (x ∷ a) [] t = absurd t
same_children_eq (x ∷ a) (y ∷ b) t =
    let e = eqb→eq x y (and_l (eqb x y) (same_children a b) t) in
    let r = same_children_eq a b (and_r (eqb x y) (same_children a b) t) in
    cc

pub record Same (m n : Node) : Type 0 where
  same_kind : m.kind ≡ n.kind
  same_payload : m.payload ≡ n.payload
  same_flags : m.flags ≡ n.flags
  children_same : m.children ≡ n.children

pub same_eq : (m n : Node) → T (same m n) → Same m n
same_eq m n t =
    let a = eqb m.kind n.kind in
    let b = eqb m.payload n.payload in
    let c = eqb m.flags n.flags in
    let d = same_children m.children n.children in
    let t1 : T (b && (c && d)) = and_r a (b && (c && d)) t in
    let t2 : T (c && d) = and_r b (c && d) t1 in
    record {
      same_kind = eqb→eq m.kind n.kind (and_l a (b && (c && d)) t);
      same_payload = eqb→eq m.payload n.payload (and_l b (c && d) t1);
      same_flags = eqb→eq m.flags n.flags (and_l c d t2);
      children_same = same_children_eq m.children n.children (and_r c d t2);
    }

-- what `find` finds
abbrev Found : Node → List Node → ℕ → Option ℕ → Type 0
Found n ns j none = Unit {0}
Found n ns j (some i) = (k : ℕ) × (i ≡ j + k) × (k < length ns) × T (same (at ns k) n)

pub found : (n : Node) (ns : List Node) (j : ℕ) → Found n ns j (find n ns j)
unfolding find
found n [] j = tt
found n (m ∷ ns) j = go (same m n) refl (found n ns (suc j))
  where
    later : (o : Option ℕ) → Found n ns (suc j) o → Found n (m ∷ ns) j o
    later none f = tt
    later (some i) f = (suc f.0, omega (arith, f.1), omega (arith, f.2), f.3)

    go : (b : Bool) → same m n ≡ b → Found n ns (suc j) (find n ns (suc j)) → Found n (m ∷ ns) j (elim b [ true ↦ some j | false ↦ find n ns (suc j) ])
    go true e f = (0, omega arith, omega arith, subst T (sym e) tt)
    go false e f = later (find n ns (suc j)) f

-- ---- a node that is not found has a new formula
pub same_children_refl : (a : List ℕ) → T (same_children a a)
same_children_refl [] = tt
same_children_refl (x ∷ a) = T_and (eqb x x) (same_children a a) (eqb_refl x) (same_children_refl a)

pub eq_same : (m n : Node) → m.kind ≡ n.kind → m.payload ≡ n.payload → m.flags ≡ n.flags → m.children ≡ n.children → T (same m n)
eq_same m n a b c d =
    subst T (λ i. eqb m.kind (a i) && (eqb m.payload (b i) && (eqb m.flags (c i) && same_children m.children (d i))))
    (T_and (eqb m.kind m.kind) _ (eqb_refl m.kind) (T_and (eqb m.payload m.payload) _ (eqb_refl m.payload) (T_and (eqb m.flags m.flags) _ (eqb_refl m.flags) (same_children_refl m.children))))

pub not_found : (n : Node) (ns : List Node) (j : ℕ) → find n ns j ≡ none → (k : ℕ) → k < length ns → T (same (at ns k) n) → ⊥
unfolding find
not_found n [] j e k h t = omega arith
not_found n (m ∷ ns) j e zero h t = let z : ◌≡◌ {A = Option ℕ} (some j) none = sym (ap (λ (b : Bool). elim b as (λ x. Option ℕ) [ true ↦ some j | false ↦ find n ns (suc j) ]) (T_true (same m n) t)) ∙ e in let y : ◌≡◌ {A = ℕ} 0 1 = cc in omega arith
not_found n (m ∷ ns) j e (suc k) h t = go (same m n) e (λ q. not_found n ns (suc j) q k (omega arith) t)
  where
    go : (b : Bool) → ◌≡◌ {A = Option ℕ} (elim b as (λ x. Option ℕ) [ true ↦ some j | false ↦ find n ns (suc j) ]) none → (find n ns (suc j) ≡ none → ⊥) → ⊥
    go true q r = let y : ◌≡◌ {A = ℕ} 0 1 = cc in omega arith
    go false q r = r q

pub grow_inj : (F : ℕ → Tree) (n : ℕ) → ((i j : ℕ) → i < n → j < n → F i ≡ F j → i ≡ j) → (ks ls : List ℕ) → Lower n ks → Lower n ls → forest F ks ≡ forest F ls → ks ≡ ls
grow_inj F n u [] [] a b e = refl
grow_inj F n u [] (y ∷ ls) a b e = let z : ◌≡◌ {A = ℕ} 0 1 = cc in absurd (omega arith)
grow_inj F n u (x ∷ ks) [] a b e = let z : ◌≡◌ {A = ℕ} 0 1 = cc in absurd (omega arith)
grow_inj F n u (x ∷ ks) (y ∷ ls) a b e =
    let e1 : F x ≡ F y = cc in
    let e2 : forest F ks ≡ forest F ls = cc in
    let p = u x y a.0 b.0 e1 in
    let q = grow_inj F n u ks ls a.1 b.1 e2 in
    cc

-- ids of one formula are found
pub one_found : (ns : List Node) (n : Node) → Sound ns → Inj ns → Lower (length ns) n.children → (i : ℕ) → i < length ns → formula ns i ≡ over ns n → T (same (at ns i) n)
one_found ns n s u low i h e =
    let m = at ns i in
    let o : over ns m ≡ over ns n = sym (opened ns i h (s i h).low) ∙ e in
    let a : m.kind ≡ n.kind = cc in
    let b : m.payload ≡ n.payload = cc in
    let c : m.flags ≡ n.flags = cc in
    let d : forest (formula ns) m.children ≡ forest (formula ns) n.children = cc in
    eq_same m n a b c (grow_inj (formula ns) (length ns) u m.children n.children (lower_up i (length ns) (omega arith) m.children (s i h).low) low d)

-- ---- appending
appended : (ns : List Node) (n : Node) → Sound ns → Fit (length ns) n → find n ns 0 ≡ none → Step ns (ns ++ n ∷ [])
appended ns n s l nf = record {
  longer = omega (arith, length-append ns (n ∷ []));
  kept = λ i h. stable ns (n ∷ []) i h;
  children = λ i h. ap (λ (m : Node). m.children) (get_or-append ns (n ∷ []) blank i h);
  sound = snd;
  one = uniq;
}
  where
    ms : List Node
    ms = ns ++ n ∷ []

    len : length ms ≡ suc (length ns)
    len = omega (arith, length-append ns (n ∷ []))

    snd : Sound (ns ++ n ∷ [])
    snd i h = elim (ℕ_discrete i (length ns)) [
      | yes e ↦ subst (λ (j : ℕ). Fit j (at (ns ++ n ∷ []) j)) (sym e) (subst (λ (m : Node). Fit (length ns) m) (sym (get_or-append_seam ns n [] blank)) l)
      | no d ↦
          let hi : i < length ns = omega (arith, length-append ns (n ∷ []), d) in
          subst (λ (m : Node). Fit i m) (sym (get_or-append ns (n ∷ []) blank i hi)) (s i hi)
    ]

    here : formula ms (length ns) ≡ over ns n
    here = opened ms (length ns) (omega (arith, len)) (snd (length ns) (omega (arith, len))).low
        ∙ ap (over ms) (get_or-append_seam ns n [] blank)
        ∙ ap (tree n.kind n.payload n.flags) (grow_cong (formula ms) (formula ns) (length ns) (stable ns (n ∷ [])) n.children l.low)

    clash : Inj ns → (i : ℕ) → i < length ns → formula ms i ≡ formula ms (length ns) → ⊥
    clash u i h e = not_found n ns 0 nf i h (one_found ns n s u l.low i h (sym (stable ns (n ∷ []) i h) ∙ e ∙ here))

    uniq : Inj ns → Inj ms
    uniq u i j hi hj e = elim (ℕ_discrete i (length ns)) [
      | yes ei ↦ elim (ℕ_discrete j (length ns)) [
        | yes ej ↦ omega arith
        | no dj ↦ absurd (clash u j (omega (arith, len, dj)) (sym e ∙ ap (formula ms) ei))
      ]
      | no di ↦ elim (ℕ_discrete j (length ns)) [
        | yes ej ↦ absurd (clash u i (omega (arith, len, di)) (e ∙ ap (formula ms) ej))
        | no dj ↦
            let hi' : i < length ns = omega (arith, len, di) in
            let hj' : j < length ns = omega (arith, len, dj) in
            u i j hi' hj' (sym (stable ns (n ∷ []) i hi') ∙ e ∙ stable ns (n ∷ []) j hj')
      ]
    ]

pub interned : (l : Lent) (ns : List Node) (n : Node) → Sound ns → Fit (length ns) n
    → Result ns (λ ms i. formula ms i ≡ over ns n) (intern l ns n)
unfolding intern
interned l ns n s low = go (find n ns 0) refl (found n ns 0)
  where
    new : find n ns 0 ≡ none → (o : Option ℕ) → Result ns (λ ms i. formula ms i ≡ over ns n) (add_new ns n o)
    new nf none =
        let ms = ns ++ n ∷ [] in
        let st = appended ns n s low nf in
        let h : length ns < length ms = omega (arith, length-append ns (n ∷ [])) in
        let e : at ms (length ns) ≡ n = get_or-append_seam ns n [] blank in (
          st,
          h,
          opened ms (length ns) h (st.sound (length ns) h).low
              ∙ ap (over ms) e
              ∙ ap (tree n.kind n.payload n.flags) (grow_cong (formula ms) (formula ns) (length ns) st.kept n.children low.low),
        )
    new nf (some r) = stay ns s

    go : (o : Option ℕ) → find n ns 0 ≡ o → Found n ns 0 o → Result ns (λ ms i. formula ms i ≡ over ns n) (found_or_new l ns n o)
    go none e f = new e (no_place l (length ns))
    go (some i) q f =
        let h : i < length ns = omega (arith, f.1, f.2) in
        let ei : f.0 ≡ i = omega (arith, f.1) in
        let sm : Same (at ns i) n = same_eq (at ns i) n (subst (λ (j : ℕ). T (same (at ns j) n)) ei f.3) in
        let e : over ns (at ns i) ≡ over ns n = cc (sm.same_kind, sm.same_payload, sm.same_flags, ap (forest (formula ns)) sm.children_same) in
        (stay ns s, h, opened ns i h (s i h).low ∙ e)

-- ---- marking
pub marked_step : (p : Mode) (ns : List Node) (i : ℕ) → Sound ns → Step ns (set ns i (marked p (at ns i)))
marked_step p ns i s = record {
  longer = omega (arith, length-set ns i (marked p (at ns i)));
  kept = λ j h. marking p ns i j;
  children = same_kids;
  sound = snd;
  one = λ u a b ha hb e. u a b (omega (arith, length-set ns i (marked p (at ns i)))) (omega (arith, length-set ns i (marked p (at ns i)))) (sym (marking p ns i a) ∙ e ∙ marking p ns i b);
}
  where
    same_kids : (j : ℕ) → j < length ns → (at (set ns i (marked p (at ns i))) j).children ≡ (at ns j).children
    same_kids j h = elim (ℕ_discrete j i) [
      | yes e ↦ subst (λ (k : ℕ). (at (set ns i (marked p (at ns i))) k).children ≡ (at ns k).children) (sym e)
          (ap (λ (m : Node). m.children) (get_or-set_same ns i (marked p (at ns i)) blank (subst (λ (k : ℕ). k < length ns) e h)))
      | no d ↦ ap (λ (m : Node). m.children) (get_or-set_other ns i j (marked p (at ns i)) blank d)
    ]

    snd : Sound (set ns i (marked p (at ns i)))
    snd j h = elim (ℕ_discrete j i) [
      | yes e ↦
          let hi : i < length ns = omega (arith, e, length-set ns i (marked p (at ns i))) in
          subst (λ (k : ℕ). Fit k (at (set ns i (marked p (at ns i))) k)) (sym e)
          (subst (λ (m : Node). Fit i m) (sym (get_or-set_same ns i (marked p (at ns i)) blank hi)) (record { low = (s i hi).low; filled = (s i hi).filled; number = (s i hi).number }))
      | no d ↦
          let hj : j < length ns = omega (arith, length-set ns i (marked p (at ns i))) in
          subst (λ (m : Node). Fit j m) (sym (get_or-set_other ns i j (marked p (at ns i)) blank d)) (s j hj)
    ]
