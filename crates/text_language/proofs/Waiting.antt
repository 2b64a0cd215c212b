-- How many results wait while a text's program runs.
use Prim.Native.Nat.{ℕ, zero, suc, ◌+◌, ◌-◌, ◌*◌, ◌≤◌, ◌<◌, max}
use mathlib.Core.Path.{◌≡◌, refl, sym, ap, ◌∙◌, subst}
use mathlib.Core.List.{List, [], ◌∷◌, ◌++◌, append_assoc}
use native.Mathlib.Omega.{arith}
use Rattle.text_language.specs.Grammar.{Chain, sums, products, Expr, constant, variable, negated, linked, raised, Level, chain, power, factor, under, Atom, Reads, one, next, base, raise, atom, minus, bracket}
use Rattle.text_language.specs.Program as P
use Rattle.text_language.specs.Program.{Token, number, name, negate, join, join_of, postfix, tall, waiting, most_waiting, FitsProgram}

pub append_nil : (ts : List Token) → ts ++ [] ≡ ts
append_nil [] = refl
append_nil (t ∷ ts) = ap (λ (x : List Token). t ∷ x) (append_nil ts)

pub tall_text : {l : Level} {s r : List ℕ} {e : Expr} {d : ℕ} → Reads l s e d r → tall e ≤ 2 * d + waiting l
unfolding tall
tall_text (one {k = sums} h) = let i = tall_text h in omega arith
tall_text (one {k = products} h) = let i = tall_text h in omega arith
tall_text (next {k = sums} x h p q) = let i = tall_text h in let j = tall_text q in omega arith
tall_text (next {k = products} x h p q) = let i = tall_text h in let j = tall_text q in omega arith
tall_text (base h) = tall_text h
tall_text (raise h p q) = let i = tall_text h in let j = tall_text q in omega arith
tall_text (atom a) = tall_atom a
  where
    tall_atom : {s r : List ℕ} {e : Expr} → Atom s e r → tall e ≤ 2 * 0 + 1
    tall_atom (Atom.blank e a) = tall_atom a
    tall_atom (Atom.whole e h l) = omega arith
    tall_atom (Atom.bits e h l) = omega arith
    tall_atom (Atom.name e h l) = omega arith
tall_text (minus p h) = let i = tall_text h in omega arith
tall_text (bracket p h q) = let i = tall_text h in omega arith

-- two operands and what joins them
joined_fits : (a b : List Token) (o : P.Join) (ts : List Token) (h : ℕ) → FitsProgram h (a ++ (b ++ join o ∷ ts)) → FitsProgram h ((a ++ (b ++ join o ∷ [])) ++ ts)
joined_fits a b o ts h f = subst (FitsProgram h) (sym (append_assoc a (b ++ join o ∷ []) ts ∙ ap (λ (y : List Token). a ++ y) (append_assoc b (join o ∷ []) ts))) f

abbrev FitsWith : Expr → Type 0
FitsWith e = (ts : List Token) (h : ℕ) → tall e + h ≤ most_waiting → FitsProgram (suc h) ts → FitsProgram h (postfix e ++ ts)

fits_two : (a b : Expr) (o : P.Join) (ts : List Token) (h : ℕ) → max (tall a) (suc (tall b)) + h ≤ most_waiting → FitsProgram (suc h) ts → FitsWith a → FitsWith b → FitsProgram h ((postfix a ++ (postfix b ++ join o ∷ [])) ++ ts)
unfolding FitsProgram
fits_two a b o ts h m f fa fb = joined_fits (postfix a) (postfix b) o ts h (fa (postfix b ++ join o ∷ ts) h (omega arith) (fb (join o ∷ ts) (suc h) (omega arith) (omega arith, let e : suc h ≡ suc (suc h) - 1 = omega arith in subst (λ (n : ℕ). FitsProgram n ts) e f)))

pub fits : (e : Expr) (ts : List Token) (h : ℕ) → tall e + h ≤ most_waiting → FitsProgram (suc h) ts → FitsProgram h (postfix e ++ ts)
unfolding FitsProgram postfix tall
fits (constant b) ts h m f = (omega arith, f)
fits (variable w) ts h m f = (omega arith, f)
fits (negated a) ts h m f = rw (append_assoc (postfix a) (negate ∷ []) ts) (fits a (negate ∷ ts) h m (omega arith, f))
fits (linked k x a b) ts h m f = fits_two a b (join_of k x) ts h m f (fits a) (fits b)
fits (raised a b) ts h m f = fits_two a b P.raise ts h m f (fits a) (fits b)

-- a text's program fits
pub fits_text : {s r : List ℕ} {e : Expr} {d : ℕ} → Reads (chain sums) s e d r → d ≤ 64 → FitsProgram 0 (postfix e)
unfolding FitsProgram
fits_text {e = e} h d = let t = tall_text h in subst (FitsProgram 0) (append_nil (postfix e)) (fits e [] 0 (omega arith) (omega arith))
