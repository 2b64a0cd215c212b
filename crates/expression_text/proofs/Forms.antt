-- The expressions of texts are the proper ones.
use Prim.Native.Nat.{ℕ, ◌^◌, ◌<◌}
use mathlib.Core.Path.{◌≡◌, refl, ap, ap₂}
use mathlib.Core.Bool.{Bool, true, false, ◌&&◌, not, false≢true}
use mathlib.Core.List.{List, [], ◌∷◌}
use lib.ListN.{length}
use lib.Dec.{leb, ltb}
use lib.IntN.{pos}
use lib.Ieee.{binary64, nan_bits, of_int}
use lib.Ieee.Bits.{to_bits-lt}
use lib.Ieee.Fits.{of_int-fits}
use native.Mathlib.Omega.{arith}
use borrow.Author.Tests.{leb-true, le-leb, lt-ltb, ltb-true}
use Rattle.text_language.specs.Grammar.{Expr, constant, variable, negated, linked, raised, is_letter, is_word, is_hex, hex_digit, hexadecimal, whole_bits, Run, Atom, Level, Reads}
use Rattle.text_language.specs.Program.{Token, number, name, negate, join, Join, join_of, postfix}
use Rattle.text_language.specs.Program as Program
use Rattle.text_language.specs.Reading.{any_nan}
use Rattle.text_language.proofs.Sound.{and_both}
use Rattle.text_language.proofs.Constants.{any_first, any_parts, any_append, any_both, both_numbers}
use Rattle.expression_text.specs.Proper.{all_words, is_name, number_bits, Proper}
use Rattle.expression_text.specs.Listed.{AllOf, OnlyProper}
use Rattle.expression_text.proofs.Bracketing.{Spelled}
use Rattle.expression_text.proofs.Numerals.{numeral_atom, NameForm, name_atom}
use Rattle.expression_text.proofs.Digits.{run_all, digits_low, hex_low}

-- ---- a proper expression is spelled as the language has it

pub all_words_lem : (v : List ℕ) → all_words v ≡ true → AllOf is_word v
unfolding all_words
all_words_lem [] h = tt
all_words_lem (c ∷ v) h = let p = and_both (is_word c) (all_words v) h in (p.0, all_words_lem v p.1)

pub name_form : (v : List ℕ) → is_name v ≡ true → NameForm v
unfolding is_name
name_form [] h = absurd (false≢true h)
name_form (c ∷ v) h =
    let p = and_both (is_letter c) (all_words v && leb (length v) 31) h in
    let q = and_both (all_words v) (leb (length v) 31) p.1 in
    record { head = c; rest = v; is = refl; letter = p.0; words = all_words_lem v q.0; short = leb-true (length v) 31 q.1 }

pub not_false : (b : Bool) → not b ≡ true → b ≡ false
not_false true h = absurd (false≢true h)
not_false false h = refl

pub record NumberForm (b : ℕ) : Type 0 where
  pub low : b < 2 ^ 64
  pub number : nan_bits binary64 b ≡ false

pub number_form : (b : ℕ) → number_bits b ≡ true → NumberForm b
unfolding number_bits
number_form b h = let p = and_both (ltb b (2 ^ 64)) (not (nan_bits binary64 b)) h in record { low = ltb-true b (2 ^ 64) p.0; number = not_false (nan_bits binary64 b) p.1 }

pub is_number : (b : ℕ) → NumberForm b → number_bits b ≡ true
unfolding number_bits
is_number b f = ap₂ (λ (x y : Bool). x && not y) (lt-ltb b (2 ^ 64) f.low) f.number

pub spelled : (e : Expr) → Proper e → Spelled e
spelled (constant b) h = λ r. numeral_atom b (number_form b h).low r
spelled (variable w) h = λ r. name_atom w (name_form w h) r
spelled (negated a) h = spelled a h
spelled (linked k x a b) h = (spelled a h.0, spelled b h.1)
spelled (raised a b) h = (spelled a h.0, spelled b h.1)

-- ---- its constants are numbers

pub numbers : (e : Expr) → Proper e → any_nan (postfix e) ≡ false
unfolding postfix any_nan
numbers (constant b) h = any_first (number b) [] (number_form b h).number refl
numbers (variable w) h = refl
numbers (negated a) h = any_append (postfix a) (negate ∷ []) (numbers a h) refl
numbers (linked k x a b) h = any_append (postfix a) _ (numbers a h.0) (any_append (postfix b) (join (join_of k x) ∷ []) (numbers b h.1) refl)
numbers (raised a b) h = any_append (postfix a) _ (numbers a h.0) (any_append (postfix b) (join Program.raise ∷ []) (numbers b h.1) refl)

-- ---- what a text reads to is proper

run_words : {s v r : List ℕ} → Run is_word s v r → all_words v ≡ true
unfolding all_words
run_words Run.stop = refl
run_words (Run.more {c} {s} {w} {r} h q) = ap₂ (λ (x y : Bool). x && y) h (run_words q)

-- # and 16 hex digits, and the bits of a whole number, are below 2^64
hex_bits : (w : List ℕ) → AllOf is_hex w → length w ≡ 16 → hexadecimal w < 2 ^ 64
unfolding hexadecimal
hex_bits w h l =
    let z = digits_low 16 hex_digit is_hex hex_low 0 w h in
    let y : 16 ^ length w ≡ 18446744073709551616 = ap (λ (k : ℕ). 16 ^ k) l in
    omega arith

pub whole_bits_lem : (n : ℕ) → whole_bits n < 2 ^ 64
unfolding whole_bits
whole_bits_lem n = to_bits-lt binary64 (of_int binary64 (pos n)) (of_int-fits binary64 (pos n))

proper_number : (b : ℕ) → b < 2 ^ 64 → any_nan (postfix (constant b)) ≡ false → Proper (constant b)
unfolding postfix
proper_number b l n = is_number b (record { low = l; number = (any_parts (number b) [] n).0 })

proper_atom : {s r : List ℕ} {e : Expr} → Atom s e r → any_nan (postfix e) ≡ false → Proper e
unfolding is_name
proper_atom (Atom.blank h a) n = proper_atom a n
proper_atom (Atom.whole h q l) n = proper_number _ (whole_bits_lem _) n
proper_atom (Atom.bits h q l) n = proper_number _ (hex_bits _ (run_all q) l) n
proper_atom (Atom.name {c} {s} {w} {r} h q l) n = ap₂ (λ (x y : Bool). x && y) h (ap₂ (λ (x y : Bool). x && y) (run_words q) (le-leb (length w) 31 l))

proper_reads : {l : Level} {s r : List ℕ} {e : Expr} {d : ℕ} → Reads l s e d r → any_nan (postfix e) ≡ false → Proper e
unfolding postfix
proper_reads (Reads.one v) n = proper_reads v n
proper_reads (Reads.next {k} {a = a} {b = b} x v p u) n = let q = both_numbers a b (join_of k x) n in (proper_reads v q.0, proper_reads u q.1)
proper_reads (Reads.base v) n = proper_reads v n
proper_reads (Reads.raise {a = a} {b = b} v p u) n = let q = both_numbers a b Program.raise n in (proper_reads v q.0, proper_reads u q.1)
proper_reads (Reads.atom a) n = proper_atom a n
proper_reads (Reads.minus {e = e} p v) n = proper_reads v (any_both (postfix e) _ n).0
proper_reads (Reads.bracket p v q) n = proper_reads v n

pub has_text : OnlyProper
has_text e t = proper_reads t.reads.reads t.numbers
