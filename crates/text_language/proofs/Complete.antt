-- Every reading is found by the reader, and each text has one.
use Prim.Native.Nat.{ℕ, zero, suc, ◌+◌, ◌*◌, ◌≤◌, ◌<◌, max}
use mathlib.Core.Path.{◌≡◌, refl, sym, ap, ◌∙◌, subst}
use mathlib.Core.Bool.{Bool, true, false, ◌&&◌, ◌||◌, cond, and-false}
use mathlib.Core.Option.{Option, none, some}
use mathlib.Core.List.{List, [], ◌∷◌}
use lib.ListN.{length}
use lib.Dec.{leb, eqb}
use native.Mathlib.Omega.{arith}
use borrow.Author.Tests.{eqb-true, eqb-false, eq-eqb, ne_eqb, leb-true, lt-leb}
use Rattle.text_language.specs.Grammar.{Chain, sums, products, Expr, constant, variable, negated, linked, raised, is_digit, is_letter, is_word, is_hex, decimal, hexadecimal, whole_bits, Level, chain, power, factor, under, sign, Run, stop, Atom, Sign, Reads, one, next, base, raise, atom, minus, bracket, Blanks, Text}
use Rattle.text_language.specs.Reader.{lead, skip, past, word, beyond, Got, got, bad, after, atom_of, which, Job, level, onward, read}
use Rattle.text_language.specs.Reader.{rank}
use Rattle.text_language.proofs.Sound.{absurd_bool, Ok, sound}

-- ---- what may follow

-- no byte of a name or number follows
abbrev pub Ends : List ℕ → Type 0
Ends [] = Unit {0}
Ends (c ∷ s) = is_word c ≡ false

-- the byte c is no sign by which a text of the kind l goes on
abbrev pub Stops : Level → ℕ → Type 0
Stops factor c = Unit {0}
Stops power c = eqb c 94 ≡ false
Stops (chain products) c = (eqb c 94 ≡ false) × (which products c ≡ none)
Stops (chain sums) c = ((eqb c 94 ≡ false) × (which products c ≡ none)) × (which sums c ≡ none)

pub record Halt (l : Level) (r : List ℕ) : Type 0 where
  pub ends : Ends r
  pub stops : Stops l (lead r)

halt_under : (k : Chain) (r : List ℕ) → Halt (chain k) r → Halt (under k) r
halt_under sums r h = record { ends = h.ends; stops = h.stops.0 }
halt_under products r h = record { ends = h.ends; stops = h.stops.0 }

halt_none : (k : Chain) (r : List ℕ) → Halt (chain k) r → which k (lead r) ≡ none
halt_none sums r h = h.stops.1
halt_none products r h = h.stops.1

-- ---- lengths

run_length : {p : ℕ → Bool} {s w r : List ℕ} → Run p s w r → length r ≤ length s
run_length stop = omega arith
run_length (Run.more e h) = let i = run_length h in omega arith

pub atom_length : {s r : List ℕ} {e : Expr} → Atom s e r → length r < length s
atom_length (Atom.blank e a) = let i = atom_length a in omega arith
atom_length (Atom.whole e h l) = let i = run_length h in omega arith
atom_length (Atom.bits e h l) = let i = run_length h in omega arith
atom_length (Atom.name e h l) = let i = run_length h in omega arith

pub sign_length : {k : ℕ} {s r : List ℕ} → Sign k s r → length r < length s
sign_length (Sign.blank e h) = let i = sign_length h in omega arith
sign_length (Sign.here e) = omega arith

pub shorter : {l : Level} {s r : List ℕ} {e : Expr} {d : ℕ} → Reads l s e d r → length r < length s
shorter (one h) = shorter h
shorter (next x h p q) = let i = shorter h in let j = sign_length p in let m = shorter q in omega arith
shorter (base h) = shorter h
shorter (raise h p q) = let i = shorter h in let j = sign_length p in let m = shorter q in omega arith
shorter (atom a) = atom_length a
shorter (minus p h) = let i = shorter h in let j = sign_length p in omega arith
shorter (bracket p h q) = let i = shorter h in let j = sign_length p in let m = sign_length q in omega arith

-- ---- signs

pub record Led (k : ℕ) (s t : List ℕ) : Type 0 where
  pub leads : lead s ≡ k
  pub pasts : past s ≡ t

pub led : {k : ℕ} {s t : List ℕ} → eqb k 32 ≡ false → Sign k s t → Led k s t
unfolding lead past
led {k} z (Sign.blank {c} e h) = let i = led z h in let q : eqb c 32 ≡ true = eq-eqb c 32 e in record { leads = rw (q, lead) i.leads; pasts = rw (q, past) i.pasts }
led {k} z (Sign.here {c} e) = let q : eqb c 32 ≡ false = ap (λ (x : ℕ). eqb x 32) e ∙ z in record { leads = rw (q, lead) e; pasts = rw (q, past) }

sign_ends : {k : ℕ} {s t : List ℕ} → is_word k ≡ false → Sign k s t → Ends s
sign_ends z (Sign.blank e h) = ap is_word e
sign_ends z (Sign.here e) = ap is_word e ∙ z

halt_sign : (l : Level) (k : ℕ) {s t : List ℕ} → eqb k 32 ≡ false → is_word k ≡ false → Stops l k → Sign k s t → Halt l s
halt_sign l k z w h p = record { ends = sign_ends w p; stops = subst (Stops l) (sym (led z p).leads) h }

-- the sign of a chain ends its left operand
link_halt : (k : Chain) (x : Bool) {s t : List ℕ} → Sign (sign k x) s t → Halt (under k) s
unfolding which
link_halt sums false p = halt_sign (chain products) 43 refl refl (refl, refl) p
link_halt sums true p = halt_sign (chain products) 45 refl refl (refl, refl) p
link_halt products false p = halt_sign power 42 refl refl refl p
link_halt products true p = halt_sign power 47 refl refl refl p

link_led : (k : Chain) (x : Bool) {s t : List ℕ} → Sign (sign k x) s t → (which k (lead s) ≡ some x) × (past s ≡ t)
unfolding which
link_led sums false p = let h = led refl p in (ap (which sums) h.leads, h.pasts)
link_led sums true p = let h = led refl p in (ap (which sums) h.leads, h.pasts)
link_led products false p = let h = led refl p in (ap (which products) h.leads, h.pasts)
link_led products true p = let h = led refl p in (ap (which products) h.leads, h.pasts)

-- ---- words

-- the byte after a word that is shorter than k fails p
abbrev Cut : (ℕ → Bool) → ℕ → List ℕ → Type 0
Cut p zero r = Unit {0}
Cut p (suc k) [] = Unit {0}
Cut p (suc k) (c ∷ r) = p c ≡ false

pub record Cuts (p : ℕ → Bool) (k : ℕ) (s w r : List ℕ) : Type 0 where
  pub words : word p k s ≡ w
  pub rests : beyond p k s ≡ r

cut : (p : ℕ → Bool) (k : ℕ) {s w r : List ℕ} → Run p s w r → length w ≤ k → ((j : ℕ) → length w + j ≡ k → Cut p j r) → Cuts p k s w r
unfolding word beyond
cut p k (stop {s}) l h = go k s (h k (omega arith))
  where
    go : (k : ℕ) (s : List ℕ) → Cut p k s → Cuts p k s [] s
    go zero s h = record { words = refl; rests = refl }
    go (suc k) [] h = record { words = refl; rests = refl }
    go (suc k) (c ∷ s) h = record { words = rw (h, word); rests = rw (h, beyond) }
cut p zero (Run.more e q) l h = absurd (omega arith)
cut p (suc k) (Run.more {c} e q) l h =
    let i = cut p k q (omega arith) (λ j m. h j (omega arith)) in
    record { words = rw (e, word, i.words); rests = rw (e, beyond, i.rests) }

or_none : (a b : Bool) → (a || b) ≡ false → (a ≡ false) × (b ≡ false)
or_none true b h = absurd_bool refl h
or_none false b h = (refl, h)

ends_cut : (p : ℕ → Bool) → ((c : ℕ) → is_word c ≡ false → p c ≡ false) → (j : ℕ) (r : List ℕ) → Ends r → Cut p j r
ends_cut p f zero r h = tt
ends_cut p f (suc j) [] h = tt
ends_cut p f (suc j) (c ∷ r) h = f c h

-- ---- numbers and names

pub record Read1 (s : List ℕ) (e : Expr) (r : List ℕ) : Type 0 where
  pub answer : atom_of (skip s) ≡ got e 0 r
  pub no_minus : eqb (lead s) 45 ≡ false
  pub no_bracket : eqb (lead s) 40 ≡ false

skip_blank : (c : ℕ) (s : List ℕ) → c ≡ 32 → skip (c ∷ s) ≡ skip s
unfolding skip
skip_blank c s e = ap (λ (b : Bool). elim b as (λ x. List ℕ) [ true ↦ skip s | false ↦ c ∷ s ]) (eq-eqb c 32 e)

skip_byte : (c : ℕ) (s : List ℕ) → eqb c 32 ≡ false → skip (c ∷ s) ≡ c ∷ s
unfolding skip
skip_byte c s e = ap (λ (b : Bool). elim b as (λ x. List ℕ) [ true ↦ skip s | false ↦ c ∷ s ]) e

lead_blank : (c : ℕ) (s : List ℕ) → c ≡ 32 → lead (c ∷ s) ≡ lead s
unfolding lead
lead_blank c s e = ap (λ (b : Bool). elim b as (λ x. ℕ) [ true ↦ lead s | false ↦ c ]) (eq-eqb c 32 e)

lead_byte : (c : ℕ) (s : List ℕ) → eqb c 32 ≡ false → lead (c ∷ s) ≡ c
unfolding lead
lead_byte c s e = ap (λ (b : Bool). elim b as (λ x. ℕ) [ true ↦ lead s | false ↦ c ]) e

-- a byte that passes a test which k fails is not k
differs : (p : ℕ → Bool) (c k : ℕ) → p c ≡ true → p k ≡ false → eqb c k ≡ false
differs p c k h z = ne_eqb c k (λ e. absurd_bool {A = ⊥} h (ap p e ∙ z))

-- a number or a name that begins with the byte c right here
begins : {c : ℕ} {s r : List ℕ} {e : Expr} → (p : ℕ → Bool) → p c ≡ true → p 32 ≡ false → p 45 ≡ false → p 40 ≡ false → atom_of (c ∷ s) ≡ got e 0 r → Read1 (c ∷ s) e r
begins {c} {s} p h z m b a =
    let q : eqb c 32 ≡ false = differs p c 32 h z in
    record {
      answer = ap atom_of (skip_byte c s q) ∙ a;
      no_minus = ap (λ (x : ℕ). eqb x 45) (lead_byte c s q) ∙ differs p c 45 h m;
      no_bracket = ap (λ (x : ℕ). eqb x 40) (lead_byte c s q) ∙ differs p c 40 h b;
    }

digit_word : (c : ℕ) → is_word c ≡ false → is_digit c ≡ false
digit_word c h = (or_none (is_letter c) (is_digit c) h).1

same_word : (c : ℕ) → is_word c ≡ false → is_word c ≡ false
same_word c h = h

abbrev hash : ℕ → Bool
hash c = eqb c 35

letter_low : (c : ℕ) → is_letter c ≡ true → 65 ≤ c
letter_low c h = go (leb 65 c) (leb c 90) (leb 97 c) (leb c 122) refl refl h
  where
    go : (a b x y : Bool) → leb 65 c ≡ a → leb 97 c ≡ x → (a && b || x && y) ≡ true → 65 ≤ c
    go true b x y p q h = leb-true 65 c p
    go false b true y p q h = let m = leb-true 97 c q in omega arith
    go false b false y p q h = absurd_bool h refl

letter_digit : (c : ℕ) → is_letter c ≡ true → is_digit c ≡ false
letter_digit c h = let m = letter_low c h in rw (lt-leb c 57 (omega arith)) (and-false (leb 48 c))

atom_read : {s r : List ℕ} {e : Expr} → Atom s e r → Ends r → Read1 s e r
unfolding atom_of
atom_read (Atom.blank {c} {s} e a) h =
    let i = atom_read a h in
    record {
      answer = ap atom_of (skip_blank c s e) ∙ i.answer;
      no_minus = ap (λ (x : ℕ). eqb x 45) (lead_blank c s e) ∙ i.no_minus;
      no_bracket = ap (λ (x : ℕ). eqb x 40) (lead_blank c s e) ∙ i.no_bracket;
    }
atom_read (Atom.whole {c} {s} {w} {r} e q l) h =
    let i = cut is_digit 8 q l (λ j m. ends_cut is_digit digit_word j r h) in
    begins is_digit e refl refl refl (rw (atom_of, e, i.words, i.rests))
atom_read (Atom.bits {c} {s} {w} {r} e q l) h =
    let i = cut is_hex 16 q (omega arith) (λ j m. let z : 0 ≡ j = omega arith in subst (λ (k : ℕ). Cut is_hex k r) z tt) in
    let z : length (word is_hex 16 s) ≡ 16 = ap length i.words ∙ l in
    begins hash (eq-eqb c 35 e) refl refl refl (ap (λ (x : ℕ). atom_of (x ∷ s)) e ∙ rw (atom_of, eq-eqb (length (word is_hex 16 s)) 16 z, i.words, i.rests))
atom_read (Atom.name {c} {s} {w} {r} e q l) h =
    let i = cut is_word 31 q l (λ j m. ends_cut is_word same_word j r h) in
    begins is_letter e refl refl refl (rw (atom_of, letter_digit c e, e, i.words, i.rests))

-- ---- the reader, step by step

module _ (n : ℕ) (s : List ℕ) where
  pub step_chain : (k : Chain) {a : Expr} {d : ℕ} {r : List ℕ} → read n (level (under k)) s ≡ got a d r → read (suc n) (level (chain k)) s ≡ read n (onward k a d) r
  unfolding read after
  step_chain k h = ap (λ (g : Got). after g (λ a d r. read n (onward k a d) r)) h

  pub step_none : (k : Chain) (a : Expr) (d : ℕ) → which k (lead s) ≡ none → read (suc n) (onward k a d) s ≡ got a d s
  unfolding read
  step_none k a d h = rw (read, h)

  pub step_link : (k : Chain) (a : Expr) (d : ℕ) {b : Expr} {f : ℕ} {u : List ℕ} (x : Bool) → which k (lead s) ≡ some x → read n (level (under k)) (past s) ≡ got b f u
      → read (suc n) (onward k a d) s ≡ read n (onward k (linked k x a b) (max d f)) u
  unfolding read after
  step_link k a d x h i = rw (read, h, i)

  pub step_base : {a : Expr} {d : ℕ} {r : List ℕ} → read n (level factor) s ≡ got a d r → eqb (lead r) 94 ≡ false → read (suc n) (level power) s ≡ got a d r
  unfolding read after
  step_base h q = rw (read, h, after, q)

  pub step_raise : {a b : Expr} {d f : ℕ} {r u : List ℕ} → read n (level factor) s ≡ got a d r → eqb (lead r) 94 ≡ true → read n (level power) (past r) ≡ got b f u
      → read (suc n) (level power) s ≡ got (raised a b) (max d (suc f)) u
  unfolding read after
  step_raise h q i = rw (read, h, after, q, i)

  pub step_minus : {a : Expr} {d : ℕ} {r : List ℕ} → eqb (lead s) 45 ≡ true → read n (level factor) (past s) ≡ got a d r → read (suc n) (level factor) s ≡ got (negated a) (suc d) r
  unfolding read after
  step_minus q h = rw (read, q, h)

  pub step_bracket : {a : Expr} {d : ℕ} {r : List ℕ} → eqb (lead s) 45 ≡ false → eqb (lead s) 40 ≡ true → read n (level (chain sums)) (past s) ≡ got a d r → eqb (lead r) 41 ≡ true
      → read (suc n) (level factor) s ≡ got a (suc d) (past r)
  unfolding read after
  step_bracket q p h z = rw (read, q, p, h, after, z)

  pub step_atom : eqb (lead s) 45 ≡ false → eqb (lead s) 40 ≡ false → read (suc n) (level factor) s ≡ atom_of (skip s)
  unfolding read
  step_atom q p = rw (read, q, p)

-- ---- the reader

pub rank_under : (k : Chain) → rank (chain k) ≡ suc (rank (under k))
rank_under sums = refl
rank_under products = refl

-- n is fuel enough to read from s to r
pub record Fuel (l : Level) (s r : List ℕ) (n : ℕ) : Type 0 where
  pub enough : 4 * length s + rank l ≤ n + 4 * length r

-- the reader has come to the end of a chain, before its next sign
pub record Come (k : Chain) (s : List ℕ) (e : Expr) (d : ℕ) (r : List ℕ) (n : ℕ) : Type 0 where
  pub fuel : ℕ
  pub comes : read n (level (chain k)) s ≡ read fuel (onward k e d) r
  pub left : n + length r ≤ fuel + length s

abbrev Goal : Level → List ℕ → Expr → ℕ → List ℕ → Type 0
Goal (chain k) s e d r = Halt (under k) r → (n : ℕ) → Fuel (chain k) s r n → Come k s e d r n
Goal power s e d r = Halt power r → (n : ℕ) → Fuel power s r n → read n (level power) s ≡ got e d r
Goal factor s e d r = Halt factor r → (n : ℕ) → Fuel factor s r n → read n (level factor) s ≡ got e d r

pub positive : (n : ℕ) → 0 < n → (m : ℕ) × (n ≡ suc m)
positive zero h = absurd (omega arith)
positive (suc m) h = (m, refl)

finish : (l : Level) {s r : List ℕ} {e : Expr} {d : ℕ} → length r < length s → Goal l s e d r → Halt l r → (n : ℕ) → Fuel l s r n → read n (level l) s ≡ got e d r
finish factor q g h n f = g h n f
finish power q g h n f = g h n f
finish (chain k) {s} {r} {e} {d} q g h n f =
    let c = g (halt_under k r h) n f in
    let z = rank_under k in
    let (m, i) = positive c.fuel (omega arith) in
    c.comes ∙ ap (λ (x : ℕ). read x (onward k e d) r) i ∙ step_none m r k e d (halt_none k r h)

walk : {l : Level} {s r : List ℕ} {e : Expr} {d : ℕ} → Reads l s e d r → Goal l s e d r
unfolding which
walk (one {k} {s} {r} {e} {d} w) = λ h n f.
    let q = shorter w in
    let z = rank_under k in
    let (m, i) = positive n (omega arith) in
    let g : read m (level (under k)) s ≡ got e d r = finish (under k) q (walk w) h m (record { enough = omega arith }) in
    record { fuel = m; comes = ap (λ (x : ℕ). read x (level (chain k)) s) i ∙ step_chain m s k g; left = omega arith }
walk (next {k} {s} {r} {t} {u} {a} {b} {d} {f} x w p v) = λ h n q.
    let lw = shorter w in
    let lp = sign_length p in
    let lv = shorter v in
    let z = rank_under k in
    let c = walk w (link_halt k x p) n (record { enough = omega arith }) in
    let (m, i) = positive c.fuel (omega arith) in
    let y = link_led k x p in
    let g : read m (level (under k)) t ≡ got b f u = finish (under k) lv (walk v) h m (record { enough = omega arith }) in
    record {
      fuel = m;
      comes = c.comes ∙ ap (λ (j : ℕ). read j (onward k a d) r) i ∙ step_link m r k a d x y.0 (ap (read m (level (under k))) y.1 ∙ g);
      left = omega arith;
    }
walk (base {s} w) = λ h n f.
    let lw = shorter w in
    let (m, i) = positive n (omega arith) in
    ap (λ (x : ℕ). read x (level power) s) i ∙ step_base m s (walk w (record { ends = h.ends; stops = tt }) m (record { enough = omega arith })) h.stops
walk (raise {s} {r} {t} {u} w p v) = λ h n f.
    let lw = shorter w in
    let lp = sign_length p in
    let lv = shorter v in
    let (m, i) = positive n (omega arith) in
    let y = led refl p in
    ap (λ (x : ℕ). read x (level power) s) i
    ∙ step_raise m s (walk w (halt_sign factor 94 refl refl tt p) m (record { enough = omega arith })) (ap (λ (x : ℕ). eqb x 94) y.leads)
    (ap (read m (level power)) y.pasts ∙ walk v h m (record { enough = omega arith }))
walk (atom {s} a) = λ h n f.
    let la = atom_length a in
    let (m, i) = positive n (omega arith) in
    let y = atom_read a h.ends in
    ap (λ (x : ℕ). read x (level factor) s) i ∙ step_atom m s y.no_minus y.no_bracket ∙ y.answer
walk (minus {s} p w) = λ h n f.
    let lw = shorter w in
    let lp = sign_length p in
    let (m, i) = positive n (omega arith) in
    let y = led refl p in
    ap (λ (x : ℕ). read x (level factor) s) i
    ∙ step_minus m s (ap (λ (x : ℕ). eqb x 45) y.leads) (ap (read m (level factor)) y.pasts ∙ walk w h m (record { enough = omega arith }))
walk (bracket {s} {t} {r} {u} {e} {d} p w q) = λ h n f.
    let lw = shorter w in
    let lp = sign_length p in
    let lq = sign_length q in
    let (m, i) = positive n (omega arith) in
    let y = led refl p in
    let z = led refl q in
    ap (λ (x : ℕ). read x (level factor) s) i
    ∙ step_bracket m s (ap (λ (x : ℕ). eqb x 45) y.leads) (ap (λ (x : ℕ). eqb x 40) y.leads)
    (ap (read m (level (chain sums))) y.pasts ∙ finish (chain sums) lw (walk w) (halt_sign (chain sums) 41 refl refl ((refl, refl), refl) q) m (record { enough = omega arith }))
    (ap (λ (x : ℕ). eqb x 41) z.leads)
    ∙ ap (got e (suc d)) z.pasts

-- ---- each text has one reading

pub found : {l : Level} {s r : List ℕ} {e : Expr} {d : ℕ} → Reads l s e d r → Halt l r → (n : ℕ) → Fuel l s r n → read n (level l) s ≡ got e d r
found {l} w h n f = finish l (shorter w) (walk w) h n f

blanks_halt : {r : List ℕ} → Blanks r → Halt (chain sums) r
unfolding lead which
blanks_halt Blanks.none = record { ends = tt; stops = ((refl, refl), refl) }
blanks_halt (Blanks.more {c} {s} e b) =
    record { ends = ap is_word e; stops = subst (Stops (chain sums)) (sym (lead_blank c s e)) (blanks_halt b).stops }

pub text_read : {s : List ℕ} {e : Expr} {d : ℕ} → (t : Text s e d) → read (4 * length s + 4) (level (chain sums)) s ≡ got e d t.left
text_read {s} t = found t.reads (blanks_halt t.blanks) (4 * length s + 4) (record { enough = omega arith })

pub one_reading : {s : List ℕ} {e a : Expr} {d f : ℕ} → Text s e d → Text s a f → (e ≡ a) × (d ≡ f)
one_reading t u = let p = text_read t in let q = text_read u in (cc, cc)

-- the text or nothing: what the reader has, if only blanks are left
pub text_of : (s : List ℕ) {e : Expr} {d : ℕ} {r : List ℕ} → read (4 * length s + 4) (level (chain sums)) s ≡ got e d r → Blanks r → Text s e d
text_of s {e} {d} {r} h b = record { left = r; reads = go (read (4 * length s + 4) (level (chain sums)) s) h (sound (4 * length s + 4) (level (chain sums)) s); blanks = b }
  where
    go : (g : Got) → g ≡ got e d r → Ok (level (chain sums)) s g → Reads (chain sums) s e d r
    go g i o = out (subst (Ok (level (chain sums)) s) i o)
      where
        out : Ok (level (chain sums)) s (got e d r) → Reads (chain sums) s e d r
        out (Ok.ok w) = w
