-- The text of an expression reads back to it, and no text that does has fewer bracket pairs or nests less deep.
use Prim.Native.Nat.{ℕ, suc, ◌+◌, ◌≤◌, max}
use mathlib.Core.Path.{◌≡◌, refl, ap, ◌∙◌}
use mathlib.Core.Bool.{Bool, true, false, cond}
use mathlib.Core.List.{List, [], ◌∷◌, ◌++◌}
use lib.Dec.{leb, eqb}
use native.Mathlib.Omega.{arith}
use borrow.Author.Tests.{eq-eqb, ne_eqb, le-leb, leb-true}
use Rattle.text_language.specs.Grammar.{Chain, sums, products, Expr, constant, variable, negated, linked, raised, is_digit, is_letter, Run, stop, Atom, Sign, Level, chain, power, factor, under, sign, Reads, one, next, base, raise, atom, minus, bracket, Blanks, Text}
use Rattle.text_language.specs.Reader.{rank}
use Rattle.text_language.proofs.Sound.{absurd_bool}
use Rattle.text_language.proofs.Complete.{rank_under}
use Rattle.expression_text.specs.Numeral.{numeral}
use Rattle.expression_text.specs.Written.{natural, fits, wrap, bare, text_of, deeper, depth_of, count, bracket_pairs}

-- ---- a text of a lower kind is one of a higher kind

to_sums : (l : Level) {s r : List ℕ} {e : Expr} {d : ℕ} → Reads l s e d r → Reads (chain sums) s e d r
to_sums factor w = one (one (base w))
to_sums power w = one (one w)
to_sums (chain products) w = one w
to_sums (chain sums) w = w

climb : (m l : Level) {s r : List ℕ} {e : Expr} {d : ℕ} → leb (rank m) (rank l) ≡ true → Reads m s e d r → Reads l s e d r
climb m (chain sums) h w = to_sums m w
climb factor factor h w = w
climb factor power h w = base w
climb factor (chain products) h w = one (base w)
climb power factor h w = absurd_bool h refl
climb power power h w = w
climb power (chain products) h w = one w
climb (chain products) factor h w = absurd_bool h refl
climb (chain products) power h w = absurd_bool h refl
climb (chain products) (chain products) h w = w
climb (chain sums) factor h w = absurd_bool h refl
climb (chain sums) power h w = absurd_bool h refl
climb (chain sums) (chain products) h w = absurd_bool h refl

wrapped : (l : Level) (e : Expr) (f : List ℕ → List ℕ) (d : ℕ) → ((r : List ℕ) → Reads (natural e) (f r) e d r)
    → (r : List ℕ) → Reads l (wrap (fits l e) f r) e (deeper (fits l e) d) r
wrapped l e f d w r = go (fits l e) refl
  where
    go : (b : Bool) → fits l e ≡ b → Reads l (wrap b f r) e (deeper b d) r
    go true h = climb (natural e) l h (w r)
    go false h = climb factor l (least l) (bracket (Sign.here refl) (to_sums (natural e) (w (41 ∷ r))) (Sign.here refl))
      where
        least : (l : Level) → leb 1 (rank l) ≡ true
        least factor = refl
        least power = refl
        least (chain sums) = refl
        least (chain products) = refl

-- ---- what is written reads back

-- every name and every constant of e has a text
abbrev pub Spelled : Expr → Type 0
Spelled (constant b) = (r : List ℕ) → Atom (numeral b ++ r) (constant b) r
Spelled (variable w) = (r : List ℕ) → Atom (w ++ r) (variable w) r
Spelled (negated a) = Spelled a
Spelled (linked k x a b) = Spelled a × Spelled b
Spelled (raised a b) = Spelled a × Spelled b

bare_reads : (e : Expr) → Spelled e → (r : List ℕ) → Reads (natural e) (bare e r) e (depth_of e) r
unfolding bare depth_of
bare_reads (constant b) h r = atom (h r)
bare_reads (variable w) h r = atom (h r)
bare_reads (negated a) h r = minus (Sign.here refl) (wrapped factor a (bare a) (depth_of a) (bare_reads a h) r)
bare_reads (linked k x a b) h r =
    next x (wrapped (chain k) a (bare a) (depth_of a) (bare_reads a h.0) (sign k x ∷ wrap (fits (under k) b) (bare b) r)) (Sign.here refl)
    (wrapped (under k) b (bare b) (depth_of b) (bare_reads b h.1) r)
bare_reads (raised a b) h r =
    raise (wrapped factor a (bare a) (depth_of a) (bare_reads a h.0) (94 ∷ wrap (fits power b) (bare b) r)) (Sign.here refl)
    (wrapped power b (bare b) (depth_of b) (bare_reads b h.1) r)

pub written : (e : Expr) → Spelled e → Text (text_of e) e (depth_of e)
unfolding text_of
written e h = record { left = []; reads = to_sums (natural e) (bare_reads e h []); blanks = Blanks.none }

-- ---- brackets in a text

count_other : (c : ℕ) (s : List ℕ) → eqb c 40 ≡ false → count 40 (c ∷ s) ≡ count 40 s
unfolding count
count_other c s h = ap (λ (b : Bool). cond b 1 0 + count 40 s) h ∙ omega arith

count_open : (c : ℕ) (s : List ℕ) → c ≡ 40 → count 40 (c ∷ s) ≡ suc (count 40 s)
unfolding count
count_open c s h = ap (λ (b : Bool). cond b 1 0 + count 40 s) (eq-eqb c 40 h) ∙ omega arith

differs : (p : ℕ → Bool) (c k : ℕ) → p c ≡ true → p k ≡ false → eqb c k ≡ false
differs p c k h z = ne_eqb c k (λ e. absurd_bool {A = ⊥} h (ap p e ∙ z))

run_count : {p : ℕ → Bool} {s w r : List ℕ} → p 40 ≡ false → Run p s w r → count 40 s ≡ count 40 r
run_count z stop = refl
run_count {p} z (Run.more {c} {s} h q) = count_other c s (differs p c 40 h z) ∙ run_count z q

atom_count : {s r : List ℕ} {e : Expr} → Atom s e r → count 40 s ≡ count 40 r
atom_count (Atom.blank {c} {s} e a) = count_other c s (ap (λ (x : ℕ). eqb x 40) e) ∙ atom_count a
atom_count (Atom.whole {c} {s} h q l) = count_other c s (differs is_digit c 40 h refl) ∙ run_count refl q
atom_count (Atom.bits {c} {s} h q l) = count_other c s (ap (λ (x : ℕ). eqb x 40) h) ∙ run_count refl q
atom_count (Atom.name {c} {s} h q l) = count_other c s (differs is_letter c 40 h refl) ∙ run_count refl q

sign_count : {k : ℕ} {s r : List ℕ} → eqb k 40 ≡ false → Sign k s r → count 40 s ≡ count 40 r
sign_count z (Sign.blank {c} {s} e p) = count_other c s (ap (λ (x : ℕ). eqb x 40) e) ∙ sign_count z p
sign_count z (Sign.here {c} {s} e) = count_other c s (ap (λ (x : ℕ). eqb x 40) e ∙ z)

open_count : {s r : List ℕ} → Sign 40 s r → count 40 s ≡ suc (count 40 r)
open_count (Sign.blank {c} {s} e p) = count_other c s (ap (λ (x : ℕ). eqb x 40) e) ∙ open_count p
open_count (Sign.here {c} {s} e) = count_open c s e

link_other : (k : Chain) (x : Bool) → eqb (sign k x) 40 ≡ false
link_other sums false = refl
link_other sums true = refl
link_other products false = refl
link_other products true = refl

-- ---- no text has fewer

-- bracket pairs that an expression's text has
unfoldable pairs : Expr → ℕ
pairs (constant b) = 0
pairs (variable w) = 0
pairs (negated a) = deeper (fits factor a) (pairs a)
pairs (linked k x a b) = deeper (fits (chain k) a) (pairs a) + deeper (fits (under k) b) (pairs b)
pairs (raised a b) = deeper (fits factor a) (pairs a) + deeper (fits power b) (pairs b)

-- pairs that e needs where a text of the kind l is wanted
abbrev needed : Level → Expr → ℕ
needed l e = deeper (fits l e) (pairs e)

deeper_both : (a b : Bool) (n : ℕ) → (b ≡ true → a ≡ true) → deeper a n ≤ deeper b n
deeper_both true true n h = omega arith
deeper_both true false n h = omega arith
deeper_both false true n h = absurd_bool (h refl) refl
deeper_both false false n h = omega arith

deeper_most : (a : Bool) (n : ℕ) → deeper a n ≤ suc n
deeper_most true n = omega arith
deeper_most false n = omega arith

fits_own : (e : Expr) → fits (natural e) e ≡ true
fits_own e = le-leb (rank (natural e)) (rank (natural e)) (omega arith)

fits_sums : (e : Expr) → fits (chain sums) e ≡ true
fits_sums e = go (natural e)
  where
    go : (l : Level) → leb (rank l) 4 ≡ true
    go factor = refl
    go power = refl
    go (chain sums) = refl
    go (chain products) = refl

fits_up : (m l : Level) (e : Expr) → rank m ≤ rank l → fits m e ≡ true → fits l e ≡ true
fits_up m l e h q = let z = leb-true (rank (natural e)) (rank m) q in le-leb (rank (natural e)) (rank l) (omega arith)

minimal : {l : Level} {s r : List ℕ} {e : Expr} {d : ℕ} → Reads l s e d r → needed l e + count 40 r ≤ count 40 s
unfolding pairs
minimal (one {k} {e = e} w) =
    let i = minimal w in
    let z = rank_under k in
    let j = deeper_both (fits (chain k) e) (fits (under k) e) (pairs e) (fits_up (under k) (chain k) e (omega arith)) in
    omega arith
minimal (next {k} {a = a} {b = b} x w p v) =
    let i = minimal w in
    let j = minimal v in
    let c = sign_count (link_other k x) p in
    let f : needed (chain k) (linked k x a b) ≡ needed (chain k) a + needed (under k) b = ap (λ (y : Bool). deeper y (pairs (linked k x a b))) (fits_own (linked k x a b)) in
    omega arith
minimal (base {e = e} w) =
    let i = minimal w in
    let j = deeper_both (fits power e) (fits factor e) (pairs e) (fits_up factor power e (omega arith)) in
    omega arith
minimal (raise w p v) = let i = minimal w in let j = minimal v in let c = sign_count refl p in omega arith
minimal (atom {s} {r} a) = go a
  where
    go : {e : Expr} → Atom s e r → needed factor e + count 40 r ≤ count 40 s
    go w = let c = atom_count w in let z = leaf w in omega arith
      where
        leaf : {s r : List ℕ} {e : Expr} → Atom s e r → needed factor e ≡ 0
        leaf (Atom.blank h a) = leaf a
        leaf (Atom.whole h q l) = refl
        leaf (Atom.bits h q l) = refl
        leaf (Atom.name h q l) = refl
minimal (minus p w) = let i = minimal w in let c = sign_count refl p in omega arith
minimal (bracket {e = e} p w q) =
    let i = minimal w in
    let c = open_count p in
    let f = sign_count refl q in
    let g : needed (chain sums) e ≡ pairs e = ap (λ (y : Bool). deeper y (pairs e)) (fits_sums e) in
    let m = deeper_most (fits factor e) (pairs e) in
    omega arith

-- ---- the writer has no more

wrap_count : (b : Bool) (f : List ℕ → List ℕ) (n : ℕ) → ((r : List ℕ) → count 40 (f r) ≡ n + count 40 r) → (r : List ℕ) → count 40 (wrap b f r) ≡ deeper b n + count 40 r
wrap_count true f n h r = h r
wrap_count false f n h r =
    let a = count_open 40 (f (41 ∷ r)) refl in
    let b = h (41 ∷ r) in
    let c = count_other 41 r refl in
    omega arith

bare_count : (e : Expr) → Spelled e → (r : List ℕ) → count 40 (bare e r) ≡ pairs e + count 40 r
unfolding bare pairs
bare_count (constant b) h r = atom_count (h r) ∙ omega arith
bare_count (variable w) h r = atom_count (h r) ∙ omega arith
bare_count (negated a) h r =
    let i = wrap_count (fits factor a) (bare a) (pairs a) (bare_count a h) r in
    let c = count_other 45 (wrap (fits factor a) (bare a) r) refl in
    omega arith
bare_count (linked k x a b) h r =
    let t = wrap (fits (under k) b) (bare b) r in
    let i = wrap_count (fits (chain k) a) (bare a) (pairs a) (bare_count a h.0) (sign k x ∷ t) in
    let j = wrap_count (fits (under k) b) (bare b) (pairs b) (bare_count b h.1) r in
    let c = count_other (sign k x) t (link_other k x) in
    omega arith
bare_count (raised a b) h r =
    let t = wrap (fits power b) (bare b) r in
    let i = wrap_count (fits factor a) (bare a) (pairs a) (bare_count a h.0) (94 ∷ t) in
    let j = wrap_count (fits power b) (bare b) (pairs b) (bare_count b h.1) r in
    let c = count_other 94 t refl in
    omega arith

-- no text that reads to e has fewer bracket pairs than the one written
pub fewest : (e : Expr) → Spelled e → {s : List ℕ} {d : ℕ} → Text s e d → bracket_pairs (text_of e) ≤ bracket_pairs s
unfolding text_of count
fewest e h t =
    let i = minimal t.reads in
    let c = bare_count e h [] in
    let g : needed (chain sums) e ≡ pairs e = ap (λ (y : Bool). deeper y (pairs e)) (fits_sums e) in
    omega arith

-- ---- nor does any text nest less deep

shallow : {l : Level} {s r : List ℕ} {e : Expr} {d : ℕ} → Reads l s e d r → deeper (fits l e) (depth_of e) ≤ d
unfolding depth_of
shallow (one {k} {e = e} w) =
    let i = shallow w in
    let z = rank_under k in
    let j = deeper_both (fits (chain k) e) (fits (under k) e) (depth_of e) (fits_up (under k) (chain k) e (omega arith)) in
    omega arith
shallow (next {k} {a = a} {b = b} x w p v) =
    let i = shallow w in
    let j = shallow v in
    let f : deeper (fits (chain k) (linked k x a b)) (depth_of (linked k x a b)) ≡ max (deeper (fits (chain k) a) (depth_of a)) (deeper (fits (under k) b) (depth_of b))
    = ap (λ (y : Bool). deeper y (depth_of (linked k x a b))) (fits_own (linked k x a b)) in
    omega arith
shallow (base {e = e} w) =
    let i = shallow w in
    let j = deeper_both (fits power e) (fits factor e) (depth_of e) (fits_up factor power e (omega arith)) in
    omega arith
shallow (raise w p v) = let i = shallow w in let j = shallow v in omega arith
shallow (atom {s} {r} a) = leaf a
  where
    leaf : {s r : List ℕ} {e : Expr} → Atom s e r → deeper (fits factor e) (depth_of e) ≤ 0
    leaf (Atom.blank h a) = leaf a
    leaf (Atom.whole h q l) = omega arith
    leaf (Atom.bits h q l) = omega arith
    leaf (Atom.name h q l) = omega arith
shallow (minus p w) = let i = shallow w in omega arith
shallow (bracket {e = e} p w q) =
    let i = shallow w in
    let g : deeper (fits (chain sums) e) (depth_of e) ≡ depth_of e = ap (λ (y : Bool). deeper y (depth_of e)) (fits_sums e) in
    let m = deeper_most (fits factor e) (depth_of e) in
    omega arith

pub shallowest : (e : Expr) {s : List ℕ} {d : ℕ} → Text s e d → depth_of e ≤ d
shallowest e t =
    let i = shallow t.reads in
    let g : deeper (fits (chain sums) e) (depth_of e) ≡ depth_of e = ap (λ (y : Bool). deeper y (depth_of e)) (fits_sums e) in
    omega arith
