-- Whatever the reader answers is a reading.
use Prim.Native.Nat.{ℕ, zero, suc, ◌+◌, ◌≤◌, ◌<◌, max}
use mathlib.Core.Path.{◌≡◌, refl, sym, ap, ◌∙◌, subst}
use mathlib.Core.Bool.{Bool, true, false, ◌&&◌, ◌||◌, cond}
use mathlib.Core.Option.{Option, none, some}
use mathlib.Core.List.{List, [], ◌∷◌}
use lib.ListN.{length}
use lib.Dec.{leb, eqb}
use native.Mathlib.Omega.{arith}
use borrow.Author.Tests.{eqb-true, eqb-false, eq-eqb, ne_eqb}
use Rattle.text_language.specs.Grammar.{Chain, sums, products, Expr, constant, variable, negated, linked, raised, is_digit, is_letter, is_word, is_hex, decimal, hexadecimal, whole_bits, Level, chain, power, factor, under, sign, Run, stop, more, Atom, Sign, Reads, one, next, base, raise, atom, minus, bracket, Blanks, Text}
use Rattle.text_language.specs.Reader.{lead, skip, past, word, beyond, Got, got, bad, after, atom_of, which, Job, level, onward, read}

-- ---- tests

pub absurd_bool : {A : Type 0} {b : Bool} → b ≡ true → b ≡ false → A
absurd_bool p q = let z : ◌≡◌ {A = Bool} true false = cc in absurd (mathlib.Core.Bool.true≢false z)

pub split : (P : Got → Type 0) (b : Bool) (x y : Got) → (b ≡ true → P x) → (b ≡ false → P y) → P (elim b [ true ↦ x | false ↦ y ])
split P true x y f g = f refl
split P false x y f g = g refl

pub fork : (P : Got → Type 0) (o : Option Bool) (x : Got) (f : Bool → Got) → (o ≡ none → P x) → ((b : Bool) → o ≡ some b → P (f b)) → P (elim o [ none ↦ x | some b ↦ f b ])
fork P none x f g h = g refl
fork P (some b) x f g h = h b refl

pub and_both : (a b : Bool) → (a && b) ≡ true → (a ≡ true) × (b ≡ true)
and_both true b p = (refl, p)
and_both false b p = absurd_bool p refl

-- ---- words

pub run : (p : ℕ → Bool) (k : ℕ) (s : List ℕ) → Run p s (word p k s) (beyond p k s)
unfolding word beyond
run p zero s = stop
run p (suc k) [] = stop
run p (suc k) (c ∷ s) = go (p c) refl (run p k s)
  where
    go : (b : Bool) → p c ≡ b → Run p s (word p k s) (beyond p k s) → Run p (c ∷ s) (elim b [ true ↦ c ∷ word p k s | false ↦ [] ]) (elim b [ true ↦ beyond p k s | false ↦ c ∷ s ])
    go true e r = more e r
    go false e r = stop

pub word_short : (p : ℕ → Bool) (k : ℕ) (s : List ℕ) → length (word p k s) ≤ k
unfolding word
word_short p zero s = omega arith
word_short p (suc k) [] = omega arith
word_short p (suc k) (c ∷ s) = go (p c) (word_short p k s)
  where
    go : (b : Bool) → length (word p k s) ≤ k → length {A = ℕ} (elim b [ true ↦ c ∷ word p k s | false ↦ [] ]) ≤ suc k
    go true h = omega arith
    go false h = omega arith

-- ---- signs

pub sign_at : (k : ℕ) (s : List ℕ) → eqb 0 k ≡ false → eqb (lead s) k ≡ true → Sign k s (past s)
unfolding lead past
sign_at k [] z h = absurd_bool h z
sign_at k (c ∷ s) z h = go (eqb c 32) refl h (sign_at k s z)
  where
    go : (b : Bool) → eqb c 32 ≡ b → eqb (elim b [ true ↦ lead s | false ↦ c ]) k ≡ true → (eqb (lead s) k ≡ true → Sign k s (past s))
        → Sign k (c ∷ s) (elim b [ true ↦ past s | false ↦ s ])
    go true e h f = Sign.blank (eqb-true c 32 e) (f h)
    go false e h f = Sign.here (eqb-true c k h)

pub which_sign : (k : Chain) (c : ℕ) (x : Bool) → which k c ≡ some x → eqb c (sign k x) ≡ true
unfolding which
which_sign k c x h = go (eqb c (sign k false)) (eqb c (sign k true)) refl refl x h
  where
    go : (p q : Bool) → eqb c (sign k false) ≡ p → eqb c (sign k true) ≡ q → (x : Bool) → cond p (some false) (cond q (some true) none) ≡ some x → eqb c (sign k x) ≡ true
    go true q e f true h = let z : ◌≡◌ {A = Bool} true false = cc in absurd (mathlib.Core.Bool.true≢false z)
    go true q e f false h = e
    go false true e f true h = f
    go false true e f false h = let z : ◌≡◌ {A = Bool} true false = cc in absurd (mathlib.Core.Bool.true≢false z)
    go false false e f x h = let z : ◌≡◌ {A = Bool} true false = cc in absurd (mathlib.Core.Bool.true≢false z)

pub not_zero : (k : Chain) (x : Bool) → eqb 0 (sign k x) ≡ false
not_zero sums false = refl
not_zero sums true = refl
not_zero products false = refl
not_zero products true = refl

-- ---- numbers and names

pub data OkA : List ℕ → Got → Type 0 where
  no : {s : List ℕ} → OkA s bad
  ok : {s r : List ℕ} {e : Expr} → Atom s e r → OkA s (got e 0 r)

pub atom_of_lem : (s : List ℕ) → OkA s (atom_of s)
unfolding atom_of
atom_of_lem [] = OkA.no
atom_of_lem (c ∷ s) =
    split (OkA (c ∷ s)) (is_digit c) _ _ (λ p. OkA.ok (Atom.whole p (run is_digit 8 s) (word_short is_digit 8 s)))
    (λ p. split (OkA (c ∷ s)) (is_letter c) _ _ (λ q. OkA.ok (Atom.name q (run is_word 31 s) (word_short is_word 31 s)))
    (λ q. split (OkA (c ∷ s)) (eqb c 35 && eqb (length (word is_hex 16 s)) 16) _ _
    (λ h. let b = and_both (eqb c 35) _ h in OkA.ok (Atom.bits (eqb-true c 35 b.0) (run is_hex 16 s) (eqb-true _ 16 b.1)))
    (λ h. OkA.no)))

blank_ok : (c : ℕ) (s : List ℕ) → c ≡ 32 → (g : Got) → OkA s g → OkA (c ∷ s) g
blank_ok c s e g OkA.no = OkA.no
blank_ok c s e g (OkA.ok a) = OkA.ok (Atom.blank e a)

pub skipped : (s : List ℕ) → OkA s (atom_of (skip s))
unfolding skip
skipped [] = atom_of_lem []
skipped (c ∷ s) = go (eqb c 32) refl (skipped s)
  where
    go : (b : Bool) → eqb c 32 ≡ b → OkA s (atom_of (skip s)) → OkA (c ∷ s) (atom_of (elim b [ true ↦ skip s | false ↦ c ∷ s ]))
    go true e h = blank_ok c s (eqb-true c 32 e) (atom_of (skip s)) h
    go false e h = atom_of_lem (c ∷ s)

-- ---- the reader

abbrev pub Means : Job → List ℕ → Expr → ℕ → List ℕ → Type 0
Means (level l) s e d r = Reads l s e d r
Means (onward k a f) s e d r = (s₀ : List ℕ) → Reads (chain k) s₀ a f s → Reads (chain k) s₀ e d r

pub data Ok : Job → List ℕ → Got → Type 0 where
  no : {j : Job} {s : List ℕ} → Ok j s bad
  ok : {j : Job} {s r : List ℕ} {e : Expr} {d : ℕ} → Means j s e d r → Ok j s (got e d r)

ok_atom : (s : List ℕ) (g : Got) → OkA s g → Ok (level factor) s g
ok_atom s g OkA.no = Ok.no
ok_atom s g (OkA.ok h) = Ok.ok (atom h)

then : (j i : Job) (s t : List ℕ) (g : Got) (f : Expr → ℕ → List ℕ → Got) → Ok j s g → ((e : Expr) (d : ℕ) (r : List ℕ) → Means j s e d r → Ok i t (f e d r)) → Ok i t (after g f)
unfolding after
then j i s t g f Ok.no k = Ok.no
then j i s t g f (Ok.ok {r = r} {e = e} {d = d} h) k = k e d r h

along : (k : Chain) (a : Expr) (d : ℕ) (s r : List ℕ) (g : Got) → Ok (onward k a d) r g → Reads (chain k) s a d r → Ok (level (chain k)) s g
along k a d s r bad h p = Ok.no
along k a d s r (got e f u) (Ok.ok h) p = Ok.ok (h s p)

onward_of : (k : Chain) (a b : Expr) (d f : ℕ) (x : Bool) (s t r : List ℕ) (g : Got) → Sign (sign k x) s t → Reads (under k) t b f r → Ok (onward k (linked k x a b) (max d f)) r g → Ok (onward k a d) s g
onward_of k a b d f x s t r bad h p q = Ok.no
onward_of k a b d f x s t r (got e m u) h p (Ok.ok q) = Ok.ok {j = onward k a d} (λ s₀ w. q s₀ (next x w h p))

pub sound : (n : ℕ) (j : Job) (s : List ℕ) → Ok j s (read n j s)
unfolding read
sound zero j s = Ok.no
sound (suc n) (level (chain k)) s =
    then (level (under k)) (level (chain k)) s s _ _ (sound n (level (under k)) s)
    (λ a d r h. along k a d s r _ (sound n (onward k a d) r) (one h))
sound (suc n) (onward k a d) s =
    fork (Ok (onward k a d) s) (which k (lead s)) _ _ (λ h. Ok.ok {j = onward k a d} (λ s₀ w. w))
    (λ x h. then (level (under k)) (onward k a d) (past s) s _ _ (sound n (level (under k)) (past s))
    (λ b f r w. onward_of k a b d f x s (past s) r _ (sign_at (sign k x) s (not_zero k x) (which_sign k (lead s) x h)) w (sound n (onward k (linked k x a b) (max d f)) r)))
sound (suc n) (level power) s =
    then (level factor) (level power) s s _ _ (sound n (level factor) s)
    (λ a d r h. split (Ok (level power) s) (eqb (lead r) 94) _ _
    (λ q. then (level power) (level power) (past r) s _ _ (sound n (level power) (past r)) (λ b f u w. Ok.ok (raise h (sign_at 94 r refl q) w)))
    (λ q. Ok.ok (base h)))
sound (suc n) (level factor) s =
    split (Ok (level factor) s) (eqb (lead s) 45) _ _
    (λ q. then (level factor) (level factor) (past s) s _ _ (sound n (level factor) (past s)) (λ a d r w. Ok.ok (minus (sign_at 45 s refl q) w)))
    (λ q. split (Ok (level factor) s) (eqb (lead s) 40) _ _
    (λ p. then (level (chain sums)) (level factor) (past s) s _ _ (sound n (level (chain sums)) (past s))
    (λ e d r w. split (Ok (level factor) s) (eqb (lead r) 41) _ _ (λ z. Ok.ok (bracket (sign_at 40 s refl p) w (sign_at 41 r refl z))) (λ z. Ok.no)))
    (λ p. ok_atom s _ (skipped s)))
