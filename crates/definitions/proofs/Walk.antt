-- The walk replaces its root, given that a rebuild does.
use Prim.Native.Nat.{ℕ, zero, suc, ◌+◌, ◌<◌, ◌≤◌, zero-le, suc-le-suc}
use mathlib.Core.Path.{◌≡◌, refl, sym, ap, ◌∙◌, subst, subst₂}
use mathlib.Core.Bool.{Bool, true, false, cond}
use mathlib.Core.List.{List, [], ◌∷◌, ◌++◌}
use lib.ListN.{length, get_or, set, take, drop, length-set}
use lib.Seq.{drop-cons, drop-length, get_or-set_same}
use lib.Dec.{T, leb, ltb, ltb→lt, nltb→le}
use native.Mathlib.Omega.{arith}
use Rattle.definitions.specs.Node.{Node, node, at, blank}
use Rattle.definitions.specs.Intern.{Built, built, stopped, Lent}
use Rattle.definitions.specs.Walk.{Mode, marked, rebuild_as, Frame, frame, Turn, go, stop, finish, reverse_onto, taken_unwalked, descend, ascend, turn, Walked, finished, spent, halted, walk}
use Rattle.definitions.specs.Formula.{Tree, tree, formula}
use Rattle.definitions.proofs.Stable.{Lower}
use Rattle.definitions.proofs.Intern.{Sound, Step, Result, stay, trans, marked_step}

-- a test, and what it says
pub T_of : (b : Bool) → b ≡ true → T b
T_of b e = subst T (sym e) tt

pub lower_at : (n : ℕ) (ks : List ℕ) (c : ℕ) → Lower n ks → c < length ks → get_or ks c 0 < n
lower_at n [] c l h = absurd (omega arith)
lower_at n (k ∷ ks) zero l h = l.0
lower_at n (k ∷ ks) (suc c) l h = lower_at n ks c l.1 (omega arith)

module _ (Replaces : Tree → Tree → Type 0) where
  -- v stands for k
  abbrev pub StandsFor : List Node → ℕ → ℕ → Type 0
  StandsFor ns v k = (v < length ns) × Replaces (formula ns v) (formula ns k)

  abbrev pub Pairs : List Node → List ℕ → List ℕ → Type 0
  Pairs ns [] [] = Unit {0}
  Pairs ns [] (k ∷ ks) = ⊥
  Pairs ns (v ∷ vs) [] = ⊥
  Pairs ns (v ∷ vs) (k ∷ ks) = StandsFor ns v k × Pairs ns vs ks

  -- the c values on top of vs stand for the first c of ks, and rest lies under them
  abbrev pub Vals : List Node → List ℕ → ℕ → List ℕ → List ℕ → Type 0
  Vals ns ks zero vs rest = vs ≡ rest
  Vals ns ks (suc c) [] rest = ⊥
  Vals ns ks (suc c) (v ∷ vs) rest = StandsFor ns v (get_or ks c 0) × Vals ns ks c vs rest

  -- frames that wait for the value of i
  abbrev pub Under : List Node → ℕ → ℕ → List Frame → List ℕ → Type 0
  Under ns root i [] vs = (i ≡ root) × (vs ≡ [])
  Under ns root i (g ∷ gs) vs =
      (g.id < length ns) × ((c : ℕ) × (rest : List ℕ) × (g.cursor ≡ suc c) × (c < length (at ns g.id).children) × (get_or (at ns g.id).children c 0 ≡ i)
      × Vals ns (at ns g.id).children c vs rest × Under ns root g.id gs rest)

  abbrev pub Inv : List Node → ℕ → List Frame → List ℕ → Type 0
  Inv ns root [] vs = (v : ℕ) × (vs ≡ v ∷ []) × StandsFor ns v root
  Inv ns root (f ∷ fs) vs =
      (f.id < length ns) × (f.cursor ≤ length (at ns f.id).children)
      × ((rest : List ℕ) × Vals ns (at ns f.id).children f.cursor vs rest × Under ns root f.id fs rest)

  -- ---- growth
  module _ (ns ms : List Node) (st : Step ns ms) where
    for_up : (v k : ℕ) → k < length ns → StandsFor ns v k → StandsFor ms v k
    for_up v k h f = (omega (arith, f.0, st.longer), subst₂ Replaces (sym (st.kept v f.0)) (sym (st.kept k h)) f.1)

    vals_up : (ks : List ℕ) (c : ℕ) (vs rest : List ℕ) → Lower (length ns) ks → c ≤ length ks → Vals ns ks c vs rest → Vals ms ks c vs rest
    vals_up ks zero vs rest l h x = x
    vals_up ks (suc c) [] rest l h x = x
    vals_up ks (suc c) (v ∷ vs) rest l h x =
        (for_up v (get_or ks c 0) (lower_at (length ns) ks c l h) x.0, vals_up ks c vs rest l (omega arith) x.1)

  lower_weak : (n m : ℕ) → n ≤ m → (ks : List ℕ) → Lower n ks → Lower m ks
  lower_weak n m h [] l = tt
  lower_weak n m h (k ∷ ks) l = (omega (arith, l.0), lower_weak n m h ks l.1)

  under_up : (ns ms : List Node) → Sound ns → Step ns ms → (root i : ℕ) (fs : List Frame) (vs : List ℕ) → Under ns root i fs vs → Under ms root i fs vs
  under_up ns ms s st root i [] vs u = u
  under_up ns ms s st root i (g ∷ gs) vs u =
      let (c, rest, ec, hc, ek, vl, un) = u.1 in
      let ks = (at ns g.id).children in
      let e = st.children g.id u.0 in
      let low : Lower (length ns) ks = lower_weak g.id (length ns) (omega (arith, u.0)) ks (s g.id u.0).low in
      let vl' : Vals ms ks c vs rest = vals_up ns ms st ks c vs rest low (omega (arith, hc)) vl in (
        omega (arith, u.0, st.longer),
        (
          c,
          rest,
          ec,
          subst (λ (k : List ℕ). c < length k) (sym e) hc,
          subst (λ (k : List ℕ). get_or k c 0 ≡ i) (sym e) ek,
          subst (λ (k : List ℕ). Vals ms k c vs rest) (sym e) vl',
          under_up ns ms s st root g.id gs rest un,
        ),
      )

  -- a value for i goes to the frame that waits
  filled : (ns : List Node) (root i v : ℕ) (fs : List Frame) (vs : List ℕ) → StandsFor ns v i → Under ns root i fs vs → Inv ns root fs (v ∷ vs)
  filled ns root i v [] vs f u = (v, ap (λ (l : List ℕ). v ∷ l) u.1, subst (λ (k : ℕ). StandsFor ns v k) u.0 f)
  filled ns root i v (g ∷ gs) vs f u =
      let (c, rest, ec, hc, ek, vl, un) = u.1 in
      let ks = (at ns g.id).children in (
        u.0,
        omega (arith, ec, hc),
        (rest, subst (λ (n : ℕ). Vals ns ks n (v ∷ vs) rest) (sym ec) (subst (λ (k : ℕ). StandsFor ns v k) (sym ek) f, vl), un),
      )

  vals_rest : (ns : List Node) (ks : List ℕ) (c : ℕ) (vs rest : List ℕ) → Vals ns ks c vs rest → drop c vs ≡ rest
  vals_rest ns ks zero vs rest x = x
  vals_rest ns ks (suc c) [] rest x = absurd x
  vals_rest ns ks (suc c) (v ∷ vs) rest x = vals_rest ns ks c vs rest x.1

  pub vals_pairs : (ns : List Node) (ks : List ℕ) (c : ℕ) (vs rest acc : List ℕ) → c ≤ length ks → Vals ns ks c vs rest → Pairs ns acc (drop c ks) → Pairs ns (reverse_onto (take c vs) acc) ks
  vals_pairs ns ks zero vs rest acc h x p = p
  vals_pairs ns ks (suc c) [] rest acc h x p = absurd x
  vals_pairs ns ks (suc c) (v ∷ vs) rest acc h x p =
      vals_pairs ns ks c vs rest (v ∷ acc) (omega arith) x.1 (subst (λ (l : List ℕ). Pairs ns (v ∷ acc) l) (sym (drop-cons ks c 0 h)) (x.0, p))

  -- ---- a turn
  abbrev pub TurnOk : List Node → ℕ → Turn → Type 0
  TurnOk ns root (go ms fs vs) = Step ns ms × Inv ms root fs vs
  TurnOk ns root (stop ms r) = Step ns ms

  module _ (p : Mode) (replaces_refl : (t : Tree) → Replaces t t)
      (rebuilds : (l : Lent) (ns : List Node) (i : ℕ) (vs : List ℕ) → Sound ns → i < length ns → Pairs ns vs (at ns i).children → Result ns (λ ms j. Replaces (formula ms j) (formula ns i)) (rebuild_as p l ns i vs)) where
    descends : (ns : List Node) (root : ℕ) (f : Frame) (fs : List Frame) (vs : List ℕ) → Sound ns → Inv ns root (f ∷ fs) vs → f.cursor < length (at ns f.id).children → TurnOk ns root (descend p ns f fs vs)
    unfolding descend
    descends ns root f fs vs s inv h = branch (taken_unwalked p (at ns c))
      where
        ks : List ℕ
        ks = (at ns f.id).children

        c : ℕ
        c = get_or ks f.cursor 0

        hc : c < length ns
        hc = omega (arith, lower_at f.id ks f.cursor (s f.id inv.0).low h, inv.0)

        branch : (b : Bool) → TurnOk ns root (cond b (go ns (frame f.id f.depth (suc f.cursor) ∷ fs) (c ∷ vs)) (go ns (frame c (suc f.depth) 0 ∷ frame f.id f.depth (suc f.cursor) ∷ fs) vs))
        branch true = (stay ns s, (inv.0, h, (inv.2.0, ((hc, replaces_refl (formula ns c)), inv.2.1), inv.2.2)))
        branch false = (stay ns s, (hc, zero-le, (vs, refl, (inv.0, (f.cursor, inv.2.0, refl, h, refl, inv.2.1, inv.2.2)))))

    ascends : (l : Lent) (ns : List Node) (root : ℕ) (f : Frame) (fs : List Frame) (vs : List ℕ) → Sound ns → Inv ns root (f ∷ fs) vs → f.cursor ≡ length (at ns f.id).children → TurnOk ns root (ascend p l ns f fs vs)
    unfolding ascend
    ascends l ns root f fs vs s inv e = close (rebuild_as p l ns f.id (reverse_onto (take n vs) [])) (rebuilds l ns f.id (reverse_onto (take n vs) []) s inv.0 pairs)
      where
        ks : List ℕ
        ks = (at ns f.id).children

        n : ℕ
        n = length ks

        values_of : Vals ns ks n vs inv.2.0
        values_of = subst (λ (c : ℕ). Vals ns ks c vs inv.2.0) e inv.2.1

        pairs : Pairs ns (reverse_onto (take n vs) []) ks
        pairs = vals_pairs ns ks n vs inv.2.0 [] (omega arith) values_of (subst (λ (l : List ℕ). Pairs ns [] l) (sym (drop-length ks)) tt)

        close : (m : Built) → Result ns (λ ms j. Replaces (formula ms j) (formula ns f.id)) m → TurnOk ns root (finish p fs (drop n vs) m)
        close (stopped ms r) x = x
        close (built ms i) x =
            let os = set ms i (marked p (at ms i)) in
            let st2 = marked_step p ms i x.0.sound in
            let st = trans x.0 st2 in
            let un = under_up ns os s st root f.id fs inv.2.0 inv.2.2 in
            let fo : StandsFor os i f.id = (omega (arith, x.1, st2.longer), subst₂ Replaces (sym (st2.kept i x.1)) (sym (st.kept f.id inv.0)) x.2) in
            (st, subst (λ (r : List ℕ). Inv os root fs (i ∷ r)) (sym (vals_rest ns ks n vs inv.2.0 values_of)) (filled os root f.id i fs inv.2.0 fo un))

    pub turns : (l : Lent) (limit : ℕ) (ns : List Node) (root : ℕ) (f : Frame) (fs : List Frame) (vs : List ℕ) → Sound ns → Inv ns root (f ∷ fs) vs → TurnOk ns root (turn p l limit ns f fs vs)
    unfolding turn
    turns l limit ns root f fs vs s inv = first (leb limit f.depth)
      where
        ks : List ℕ
        ks = (at ns f.id).children

        second : (b : Bool) → ltb f.cursor (length ks) ≡ b → TurnOk ns root (cond b (descend p ns f fs vs) (ascend p l ns f fs vs))
        second true e = descends ns root f fs vs s inv (ltb→lt f.cursor (length ks) (subst T (sym e) tt))
        second false e = ascends l ns root f fs vs s inv (omega (arith, inv.1, nltb→le f.cursor (length ks) (subst (λ (b : Bool). T (mathlib.Core.Bool.not b)) (sym e) tt)))

        first : (b : Bool) → TurnOk ns root (cond b (go ns fs (f.id ∷ drop f.cursor vs)) (cond (ltb f.cursor (length ks)) (descend p ns f fs vs) (ascend p l ns f fs vs)))
        first true = (
          stay ns s,
          subst (λ (r : List ℕ). Inv ns root fs (f.id ∷ r)) (sym (vals_rest ns ks f.cursor vs inv.2.0 inv.2.1))
              (filled ns root f.id f.id fs inv.2.0 (inv.0, replaces_refl (formula ns f.id)) inv.2.2),
        )
        first false = second (ltb f.cursor (length ks)) refl

    -- ---- the walk
    abbrev pub WalkOk : List Node → ℕ → Walked → Type 0
    WalkOk ns root (finished ms v k) = Step ns ms × StandsFor ms v root
    WalkOk ns root (spent ms k) = Step ns ms
    WalkOk ns root (halted ms r) = Step ns ms

    done : (ns : List Node) (root k : ℕ) (vs : List ℕ) → Sound ns → Inv ns root [] vs → WalkOk ns root (finished ns (get_or vs 0 0) k)
    done ns root k vs s inv = (stay ns s, subst (λ (l : List ℕ). StandsFor ns (get_or l 0 0) root) (sym inv.1) inv.2)

    longer_ok : (ns ms : List Node) (root : ℕ) → Step ns ms → (w : Walked) → WalkOk ms root w → WalkOk ns root w
    longer_ok ns ms root st (finished os v k) x = (trans st x.0, x.1)
    longer_ok ns ms root st (spent os k) x = trans st x
    longer_ok ns ms root st (halted os r) x = trans st x

    pub walks : (l : Lent) (limit b k : ℕ) (ns : List Node) (root : ℕ) (fs : List Frame) (vs : List ℕ) → Sound ns → Inv ns root fs vs → WalkOk ns root (walk p l limit b k ns fs vs)
    unfolding walk
    walks l limit zero k ns root [] vs s inv = done ns root k vs s inv
    walks l limit zero k ns root (f ∷ fs) vs s inv = stay ns s
    walks l limit (suc b) k ns root [] vs s inv = done ns root k vs s inv
    walks l limit (suc b) k ns root (f ∷ fs) vs s inv =
        next (turn p l limit ns f fs vs) (turns l limit ns root f fs vs s inv) (λ ms gs ws st i. walks l limit b (suc k) ms root gs ws st i)
      where
        next : (t : Turn) → TurnOk ns root t → ((ms : List Node) (gs : List Frame) (ws : List ℕ) → Sound ms → Inv ms root gs ws → WalkOk ms root (walk p l limit b (suc k) ms gs ws))
            → WalkOk ns root (elim t [ go ms gs ws ↦ walk p l limit b (suc k) ms gs ws | stop ms r ↦ halted ms r ])
        next (go ms gs ws) x rec = longer_ok ns ms root x.0 (walk p l limit b (suc k) ms gs ws) (rec ms gs ws x.0.sound x.1)
        next (stop ms r) x rec = x
