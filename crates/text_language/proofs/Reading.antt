-- Every text is read in just one way: it is refused with one number, or denotes one expression.
use Prim.Native.Nat.{ℕ, zero, suc, ◌+◌, ◌*◌, ◌≤◌, ◌<◌}
use mathlib.Core.Path.{◌≡◌, refl, sym, ap, ◌∙◌, subst}
use mathlib.Core.Bool.{Bool, true, false, cond}
use mathlib.Core.Logic.{⊎_elim}
use mathlib.Core.List.{List}
use lib.ListN.{length}
use lib.Dec.{leb, eqb}
use native.Mathlib.Omega.{arith}
use native.Mathlib.Decide.{dec_le}
use borrow.Author.Tests.{leb-true, leb-false, eqb-true, eqb-false}
use Rattle.text_language.specs.Grammar.{Expr, Text, chain, sums}
use Rattle.text_language.specs.Reader.{Got, got, bad, level, read}
use Rattle.text_language.specs.Program.{postfix}
use Rattle.text_language.specs.Scan.{ended, whole, is_text}
use Rattle.text_language.specs.Reading.{most_bytes, most_nested, Sized, any_nan, Refuses, empty, long, outside, deep, nan, Denotes, Verdict, refuses, denotes, judge, verdict, Judged}
use Rattle.text_language.proofs.Sound.{absurd_bool}
use Rattle.text_language.proofs.Complete.{one_reading, text_of}
use Rattle.text_language.proofs.Scanning.{ended_blanks, text_is}

-- ---- one number

unsized_empty : {A : Type 0} {s : List ℕ} → length s ≡ 0 → Sized s → A
unsized_empty e z = absurd (let a = z.some in omega (arith, a, e))

unsized_long : {A : Type 0} {s : List ℕ} → most_bytes < length s → Sized s → A
unsized_long e z = absurd (let a = z.short in omega (arith, a, e))

depths : {s : List ℕ} {e a : Expr} {d f : ℕ} → Text s e d → Text s a f → d ≡ f
depths t u = (one_reading t u).1

exprs : {s : List ℕ} {e a : Expr} {d f : ℕ} → Text s e d → Text s a f → e ≡ a
exprs t u = (one_reading t u).0

pub one_refusal : {s : List ℕ} {j k : ℕ} → Refuses s j → Refuses s k → j ≡ k
one_refusal (empty e) (empty f) = refl
one_refusal (empty e) (long f) = refl
one_refusal (empty e) (outside z n) = unsized_empty e z
one_refusal (empty e) (deep z t l) = unsized_empty e z
one_refusal (empty e) (nan z t l n) = unsized_empty e z
one_refusal (long e) (empty f) = refl
one_refusal (long e) (long f) = refl
one_refusal (long e) (outside z n) = unsized_long e z
one_refusal (long e) (deep z t l) = unsized_long e z
one_refusal (long e) (nan z t l n) = unsized_long e z
one_refusal (outside z n) (empty f) = unsized_empty f z
one_refusal (outside z n) (long f) = unsized_long f z
one_refusal (outside z n) (outside y m) = refl
one_refusal (outside z n) (deep y t l) = absurd (n _ _ t)
one_refusal (outside z n) (nan y t l m) = absurd (n _ _ t)
one_refusal (deep z t l) (empty f) = unsized_empty f z
one_refusal (deep z t l) (long f) = unsized_long f z
one_refusal (deep z t l) (outside y n) = absurd (n _ _ t)
one_refusal (deep z t l) (deep y u m) = refl
one_refusal (deep z t l) (nan y u m n) = absurd (let q = depths t u in omega (arith, q, l, m))
one_refusal (nan z t l n) (empty f) = unsized_empty f z
one_refusal (nan z t l n) (long f) = unsized_long f z
one_refusal (nan z t l n) (outside y m) = absurd (m _ _ t)
one_refusal (nan z t l n) (deep y u m) = absurd (let q = depths t u in omega (arith, q, l, m))
one_refusal (nan z t l n) (nan y u m o) = refl

-- ---- no refusal of a text that denotes

pub not_both : {s : List ℕ} {k : ℕ} {e : Expr} → Refuses s k → Denotes s e → ⊥
not_both (empty f) h = unsized_empty f h.sized
not_both (long f) h = unsized_long f h.sized
not_both (outside y n) h = n _ _ h.text
not_both (deep y t l) h = let q = depths t h.text in let m = h.shallow in omega (arith, q, l, m)
not_both (nan y t l n) h = absurd_bool n (ap (λ x. any_nan (postfix x)) (exprs t h.text) ∙ h.numbers)

pub one_expression : {s : List ℕ} {e a : Expr} → Denotes s e → Denotes s a → e ≡ a
one_expression g h = exprs g.text h.text

-- ---- the verdict is what the text meets

pub judged : (s : List ℕ) → Judged s (verdict s)
unfolding verdict judge is_text whole
judged s = at_empty (eqb (length s) 0) refl
  where
    result : Got
    result = read (4 * length s + 4) (level (chain sums)) s

    at_number : (e : Expr) (d : ℕ) → Sized s → Text s e d → d ≤ most_nested → (b : Bool) → any_nan (postfix e) ≡ b → Judged s (cond b (refuses 10) (denotes e))
    at_number e d z t l true q = nan z t l q
    at_number e d z t l false q = record { sized = z; depth = d; text = t; shallow = l; numbers = q }

    at_depth : (e : Expr) (d : ℕ) → Sized s → Text s e d → (b : Bool) → leb d most_nested ≡ b
        → Judged s (cond b (cond (any_nan (postfix e)) (refuses 10) (denotes e)) (refuses 12))
    at_depth e d z t true q = at_number e d z t (leb-true _ _ q) (any_nan (postfix e)) refl
    at_depth e d z t false q = deep z t (leb-false _ _ q)

    at_end : (e : Expr) (d : ℕ) (r : List ℕ) → Sized s → result ≡ got e d r → (b : Bool) → ended r ≡ b
        → Judged s (cond b (cond (leb d most_nested) (cond (any_nan (postfix e)) (refuses 10) (denotes e)) (refuses 12)) (refuses 11))
    at_end e d r z i true q = at_depth e d z (text_of s i (ended_blanks r q)) (leb d most_nested) refl
    at_end e d r z i false q = outside z (λ _ _ u. absurd_bool (text_is u) (ap whole i ∙ q))

    at_text : Sized s → (g : Got) → result ≡ g → Judged s (judge g)
    at_text z (got e d r) i = at_end e d r z i (ended r) refl
    at_text z bad i = outside z (λ _ _ u. absurd_bool (text_is u) (ap whole i))

    positive : (k : ℕ) → (k ≡ 0 → ⊥) → 0 < k
    positive zero h = absurd (h refl)
    positive (suc k) h = omega arith

    at_long : (length s ≡ 0 → ⊥) → (b : Bool) → leb (length s) most_bytes ≡ b → Judged s (cond b (judge result) (refuses 1))
    at_long n true e = let m = leb-true _ _ e in at_text (record { some = positive (length s) n; short = m }) result refl
    at_long n false e = long (leb-false _ _ e)

    at_empty : (b : Bool) → eqb (length s) 0 ≡ b → Judged s (cond b (refuses 1) (cond (leb (length s) most_bytes) (judge result) (refuses 1)))
    at_empty true e = empty (eqb-true _ _ e)
    at_empty false e = at_long (eqb-false _ _ e) (leb (length s) most_bytes) refl

pub verdict_refuses : {s : List ℕ} {k : ℕ} → Refuses s k → verdict s ≡ refuses k
verdict_refuses {s} {k} h = go (verdict s) (judged s)
  where
    go : (v : Verdict) → Judged s v → v ≡ refuses k
    go (refuses j) r = ap refuses (one_refusal r h)
    go (denotes e) d = absurd (not_both h d)

pub verdict_denotes : {s : List ℕ} {e : Expr} → Denotes s e → verdict s ≡ denotes e
verdict_denotes {s} {e} h = go (verdict s) (judged s)
  where
    go : (v : Verdict) → Judged s v → v ≡ denotes e
    go (refuses j) r = absurd (not_both r h)
    go (denotes a) d = ap denotes (one_expression d h)
