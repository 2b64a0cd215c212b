-- Numbers and names at a place of a slice.
use Prim.Native.Nat.{ℕ, zero, suc, ◌+◌, ◌-◌, ◌≤◌, ◌<◌}
use mathlib.Core.Path.{◌≡◌, refl, sym, ap, ◌∙◌, subst}
use mathlib.Core.Bool.{Bool, true, false, ◌&&◌, and-false}
use mathlib.Core.List.{List, [], ◌∷◌}
use lib.ListN.{length, drop, get_or, drop_of_length-le}
use lib.Seq.{drop-cons}
use lib.Dec.{eqb}
use native.Mathlib.Omega.{arith}
use native.Mathlib.Numerals.{add-one}
use borrow.Author.Tests.{eq-eqb, ne_eqb}
use Rattle.text_language.specs.Grammar.{Expr, constant, variable, is_digit, is_letter, is_word, is_hex, decimal, hexadecimal, whole_bits}
use Rattle.text_language.specs.Reader.{word, beyond, Got, got, bad, atom_of}
use Rattle.text_language.specs.Places.{ScanRan, Behind}

module _ (c : ℕ) (t : List ℕ) where
  abbrev digit_case : Got
  digit_case = got (constant (whole_bits (decimal (c ∷ word is_digit 8 t)))) 0 (beyond is_digit 8 t)

  abbrev letter_case : Got
  letter_case = got (variable (c ∷ word is_word 31 t)) 0 (beyond is_word 31 t)

  abbrev hex_case : Got
  hex_case = got (constant (hexadecimal (word is_hex 16 t))) 0 (beyond is_hex 16 t)

  atom_cons : (d l h : Bool) → is_digit c ≡ d → is_letter c ≡ l → (eqb c 35 && eqb (length (word is_hex 16 t)) 16) ≡ h
      → atom_of (c ∷ t) ≡ elim d [ true ↦ digit_case | false ↦ elim l [ true ↦ letter_case | false ↦ elim h [ true ↦ hex_case | false ↦ bad ] ] ]
  unfolding atom_of
  atom_cons d l h p q r =
      ap (λ (x : Bool). elim x as (λ z. Got) [ true ↦ digit_case | false ↦ elim (is_letter c) [ true ↦ letter_case | false ↦ elim (eqb c 35 && eqb (length (word is_hex 16 t)) 16) [ true ↦ hex_case | false ↦ bad ] ] ]) p
      ∙ ap (λ (x : Bool). elim d as (λ z. Got) [ true ↦ digit_case | false ↦ elim x [ true ↦ letter_case | false ↦ elim (eqb c 35 && eqb (length (word is_hex 16 t)) 16) [ true ↦ hex_case | false ↦ bad ] ] ]) q
      ∙ ap (λ (x : Bool). elim d as (λ z. Got) [ true ↦ digit_case | false ↦ elim l [ true ↦ letter_case | false ↦ elim x [ true ↦ hex_case | false ↦ bad ] ] ]) r

pub atom_none : (s : List ℕ) (at : ℕ) → length s ≤ at → atom_of (drop at s) ≡ bad
unfolding atom_of
atom_none s at h = ap atom_of (drop_of_length-le s h)

module _ (s : List ℕ) (at : ℕ) (low : at < length s) where
  here : atom_of (drop at s) ≡ atom_of (get_or s at 0 ∷ drop (at + 1) s)
  here = ap atom_of (drop-cons s at 0 low ∙ ap (λ (n : ℕ). get_or s at 0 ∷ drop n s) (sym (add-one at)))

  pub digit_is : (j : ℕ) → is_digit (get_or s at 0) ≡ true → ScanRan s (at + 1) is_digit 8 j → atom_of (drop at s) ≡ got (constant (whole_bits (decimal (get_or s at 0 ∷ word is_digit 8 (drop (at + 1) s))))) 0 (drop j s)
  digit_is j d r = here ∙ atom_cons (get_or s at 0) (drop (at + 1) s) true _ _ d refl refl ∙ ap (got (constant (whole_bits (decimal (get_or s at 0 ∷ word is_digit 8 (drop (at + 1) s))))) 0) r.rests

  pub atom_digit : (j : ℕ) → is_digit (get_or s at 0) ≡ true → ScanRan s (at + 1) is_digit 8 j → Behind s 0 (atom_of (drop at s)) j
  atom_digit j d r = record { expr = _; depth = 0; is = digit_is j d r; shallow = omega arith; high = r.high }

  pub digits_are : is_digit (get_or s at 0) ≡ true → atom_of (drop at s) ≡ got (constant (whole_bits (decimal (get_or s at 0 ∷ word is_digit 8 (drop (at + 1) s))))) 0 (beyond is_digit 8 (drop (at + 1) s))
  digits_are d = here ∙ atom_cons (get_or s at 0) (drop (at + 1) s) true _ _ d refl refl

  pub name_is : (j : ℕ) → is_digit (get_or s at 0) ≡ false → is_letter (get_or s at 0) ≡ true → ScanRan s (at + 1) is_word 31 j → atom_of (drop at s) ≡ got (variable (get_or s at 0 ∷ word is_word 31 (drop (at + 1) s))) 0 (drop j s)
  name_is j d l r = here ∙ atom_cons (get_or s at 0) (drop (at + 1) s) false true _ d l refl ∙ ap (got (variable (get_or s at 0 ∷ word is_word 31 (drop (at + 1) s))) 0) r.rests

  pub names_are : is_digit (get_or s at 0) ≡ false → is_letter (get_or s at 0) ≡ true → atom_of (drop at s) ≡ got (variable (get_or s at 0 ∷ word is_word 31 (drop (at + 1) s))) 0 (beyond is_word 31 (drop (at + 1) s))
  names_are d l = here ∙ atom_cons (get_or s at 0) (drop (at + 1) s) false true _ d l refl

  pub atom_name : (j : ℕ) → is_digit (get_or s at 0) ≡ false → is_letter (get_or s at 0) ≡ true → ScanRan s (at + 1) is_word 31 j → Behind s 0 (atom_of (drop at s)) j
  atom_name j d l r = record { expr = _; depth = 0; is = name_is j d l r; shallow = omega arith; high = r.high }

  pub atom_other : is_digit (get_or s at 0) ≡ false → is_letter (get_or s at 0) ≡ false → (get_or s at 0 ≡ 35 → ⊥) → atom_of (drop at s) ≡ bad
  atom_other d l z =
      here ∙ atom_cons (get_or s at 0) (drop (at + 1) s) false false false d l (ap (λ (x : Bool). x && eqb (length (word is_hex 16 (drop (at + 1) s))) 16) (ne_eqb (get_or s at 0) 35 z))

  both : (a b x y : Bool) → a ≡ x → b ≡ y → (a && b) ≡ (x && y)
  both a b x y p q = ap (λ (z : Bool). z && b) p ∙ ap (λ (z : Bool). x && z) q

  pub atom_bits : (j : ℕ) → is_digit (get_or s at 0) ≡ false → is_letter (get_or s at 0) ≡ false → get_or s at 0 ≡ 35 → ScanRan s (at + 1) is_hex 16 j → j - (at + 1) ≡ 16 → Behind s 0 (atom_of (drop at s)) j
  atom_bits j d l z r n =
      let w = r.counts in
      let e : length (word is_hex 16 (drop (at + 1) s)) ≡ 16 = omega arith in
      record {
        expr = constant (hexadecimal (word is_hex 16 (drop (at + 1) s)));
        depth = 0;
        is = here ∙ atom_cons (get_or s at 0) (drop (at + 1) s) false false true d l (both _ _ true true (eq-eqb (get_or s at 0) 35 z) (eq-eqb _ 16 e))
            ∙ ap (got (constant (hexadecimal (word is_hex 16 (drop (at + 1) s)))) 0) r.rests;
        shallow = omega arith;
        high = r.high;
      }

  pub atom_short : (j : ℕ) → is_digit (get_or s at 0) ≡ false → is_letter (get_or s at 0) ≡ false → get_or s at 0 ≡ 35 → ScanRan s (at + 1) is_hex 16 j → (j - (at + 1) ≡ 16 → ⊥) → atom_of (drop at s) ≡ bad
  atom_short j d l z r n =
      let w = r.counts in
      here ∙ atom_cons (get_or s at 0) (drop (at + 1) s) false false false d l (both _ _ true false (eq-eqb (get_or s at 0) 35 z) (ne_eqb (length (word is_hex 16 (drop (at + 1) s))) 16 (λ e. n (omega arith))))

  -- the bits by the count of their digits
  pub bits_are : is_digit (get_or s at 0) ≡ false → is_letter (get_or s at 0) ≡ false → get_or s at 0 ≡ 35 → length (word is_hex 16 (drop (at + 1) s)) ≡ 16 → atom_of (drop at s) ≡ got (constant (hexadecimal (word is_hex 16 (drop (at + 1) s)))) 0 (beyond is_hex 16 (drop (at + 1) s))
  bits_are d l z e = here ∙ atom_cons (get_or s at 0) (drop (at + 1) s) false false true d l (both _ _ true true (eq-eqb (get_or s at 0) 35 z) (eq-eqb _ 16 e))

  pub bits_short : is_digit (get_or s at 0) ≡ false → is_letter (get_or s at 0) ≡ false → get_or s at 0 ≡ 35 → (length (word is_hex 16 (drop (at + 1) s)) ≡ 16 → ⊥) → atom_of (drop at s) ≡ bad
  bits_short d l z n = here ∙ atom_cons (get_or s at 0) (drop (at + 1) s) false false false d l (both _ _ true false (eq-eqb (get_or s at 0) 35 z) (ne_eqb (length (word is_hex 16 (drop (at + 1) s))) 16 n))
