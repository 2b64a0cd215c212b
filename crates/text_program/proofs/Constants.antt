-- A number at a place of a text.
use Prim.Native.Nat.{ℕ, zero, suc, ◌+◌, ◌-◌, ◌*◌, ◌^◌, ◌≤◌, ◌<◌}
use mathlib.Core.Path.{◌≡◌, refl, sym, ap, ◌∙◌}
use mathlib.Core.Bool.{Bool, true, false}
use mathlib.Core.List.{List, [], ◌∷◌}
use lib.ListN.{length, drop, get_or}
use lib.Seq.{drop-cons}
use lib.Dec.{leb}
use native.Mathlib.Omega.{arith}
use native.Mathlib.Nat.{pow-le-pow_right}
use native.Mathlib.Numerals.{add-one}
use borrow.Author.Tests.{leb-true}
use Rattle.text_language.specs.Grammar.{is_digit, is_letter, hex_digit, digits, decimal, hexadecimal, whole_bits}
use Rattle.text_language.specs.Reader.{word, Got, bad, atom_of}
use Rattle.text_language.specs.Program.{number, token_of, atom_token}
use Rattle.text_language.proofs.Sound.{word_short, and_both}
use Rattle.text_language.proofs.Place.{word_cons}
use Rattle.text_language.proofs.Atoms.{atom_none, atom_other, digits_are, bits_are, bits_short}
use Rattle.text_program.specs.declared.numbers.Digits.{Digits}
use Rattle.text_program.specs.declared.numbers.Radix.TheVariants.{Decimal, Hexadecimal}
use Rattle.text_program.specs.Numbers.{DigitsRead}
use Rattle.text_program.proofs.Digits.{digit_ten}

-- decimal digits say the same as hex digits
digits_ten : (k n : ℕ) (t : List ℕ) → digits 10 hex_digit n (word is_digit k t) ≡ digits 10 (λ c. c - 48) n (word is_digit k t)
unfolding digits word
digits_ten zero n t = refl
digits_ten (suc k) n [] = refl
digits_ten (suc k) n (c ∷ t) = go (is_digit c) refl (λ m. digits_ten k m t)
  where
    go : (b : Bool) → is_digit c ≡ b → ((m : ℕ) → digits 10 hex_digit m (word is_digit k t) ≡ digits 10 (λ c. c - 48) m (word is_digit k t))
        → digits 10 hex_digit n (elim b [ true ↦ c ∷ word is_digit k t | false ↦ [] ]) ≡ digits 10 (λ c. c - 48) n (elim b [ true ↦ c ∷ word is_digit k t | false ↦ [] ])
    go true e h =
        let l = leb-true c 57 (and_both (leb 48 c) (leb c 57) e).1 in
        ap (λ (d : ℕ). digits 10 hex_digit (n * 10 + d) (word is_digit k t)) (sym (digit_ten c l)) ∙ h (n * 10 + (c - 48))
    go false e h = refl

pub number_none : (g : Got) → g ≡ bad → atom_token g ≡ number 0
unfolding atom_token
number_none g e = ap atom_token e

module _ (s : List ℕ) (at : ℕ) where
  pub number_past : length s ≤ at → atom_token (atom_of (drop at s)) ≡ number 0
  number_past l = number_none (atom_of (drop at s)) (atom_none s at l)

  module _ (l : at < length s) where
    pub number_whole : (r : Digits) (bits : ℕ) → is_digit (get_or s at 0) ≡ true → DigitsRead s at Decimal 9 r → bits ≡ whole_bits r.value → atom_token (atom_of (drop at s)) ≡ number bits
    unfolding atom_token token_of decimal
    number_whole r bits d y e =
        let w : word is_digit 9 (drop at s) ≡ get_or s at 0 ∷ word is_digit 8 (drop (at + 1) s) =
        ap (word is_digit 9) (drop-cons s at 0 l ∙ ap (λ (n : ℕ). get_or s at 0 ∷ drop n s) (sym (add-one at))) ∙ word_cons is_digit 8 (get_or s at 0) (drop (at + 1) s) true d in
        ap atom_token (digits_are s at l d)
        ∙ ap number (ap (λ (x : List ℕ). whole_bits (digits 10 (λ c. c - 48) 0 x)) (sym w) ∙ ap whole_bits (sym (digits_ten 9 0 (drop at s)) ∙ sym y.value) ∙ sym e)

    module _ (d : is_digit (get_or s at 0) ≡ false) (n : is_letter (get_or s at 0) ≡ false) where
      pub number_other : (get_or s at 0 ≡ 35 → ⊥) → atom_token (atom_of (drop at s)) ≡ number 0
      number_other z = number_none (atom_of (drop at s)) (atom_other s at l d n z)

      pub number_short : (r : Digits) → get_or s at 0 ≡ 35 → DigitsRead s (at + 1) Hexadecimal 16 r → (r.count ≡ 16 → ⊥) → atom_token (atom_of (drop at s)) ≡ number 0
      number_short r z y m = number_none (atom_of (drop at s)) (bits_short s at l d n z (λ e. m (y.count ∙ e)))

      pub number_bits : (r : Digits) → get_or s at 0 ≡ 35 → DigitsRead s (at + 1) Hexadecimal 16 r → r.count ≡ 16 → atom_token (atom_of (drop at s)) ≡ number r.value
      unfolding atom_token token_of hexadecimal
      number_bits r z y m = ap atom_token (bits_are s at l d n z (sym y.count ∙ m)) ∙ ap number (sym y.value)

-- nine digits are below 2^32
pub whole_low : (s : List ℕ) (at : ℕ) (r : Digits) → DigitsRead s at Decimal 9 r → r.value < 4294967296
whole_low s at r y =
    let w = word_short is_digit 9 (drop at s) in
    let c = y.count in
    let q : r.count ≤ 9 = omega (arith, w, c) in
    let t : 0 < 10 = omega arith in
    let p : 10 ^ r.count ≤ 10 ^ 9 = pow-le-pow_right t q in
    let l = y.low in
    omega (arith, p, l)
