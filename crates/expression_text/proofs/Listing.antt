-- Whole constants from 0 to 999,999,999 are printed in fewest digits, and no others.
use Prim.Native.Nat.{ℕ, zero, suc, ◌+◌, ◌-◌, ◌/◌, ◌%◌, ◌^◌, ◌≤◌, ◌<◌}
use mathlib.Core.Path.{◌≡◌, refl, sym, ap, ap₂, ◌∙◌}
use mathlib.Core.Bool.{Bool, true, false, ◌&&◌, ◌||◌, cond, or-true}
use mathlib.Core.List.{List, [], ◌∷◌}
use lib.ListN.{length}
use lib.Dec.{leb, eqb, le→leb}
use lib.IntN.{pos}
use lib.Ieee.{binary64, of_int, to_unsigned, in_float}
use lib.Ieee.Bits.{of_bits-to_bits}
use lib.Ieee.Fits.{of_int-fits}
use lib.Ieee.Back.{unsigned_back}
use native.Mathlib.Omega.{arith}
use native.Mathlib.Nat.{pow-succ'}
use borrow.Author.Tests.{eqb-true, eqb-false, eq-eqb, leb-true, leb-false, le-leb}
use Rattle.text_language.specs.Grammar.{is_digit, decimal, whole_bits}
use Rattle.text_language.proofs.Sound.{and_both}
use Rattle.expression_text.specs.Numeral.{most_whole, most_digits, hex_digits, number_sign, decimals, hex_byte, hexes, whole_part, is_whole, numeral}
use Rattle.expression_text.specs.Listed.{AllOf, is_capital_hex, Numerals}
use Rattle.expression_text.proofs.Digits.{digits_low, digit_low}

-- ---- which are whole

abbrev printed : ℕ → Bool → List ℕ
printed b t = elim t [ true ↦ decimals most_digits (whole_part b) [] | false ↦ number_sign ∷ hexes hex_digits b [] ]

pub value_back : (n : ℕ) → n ≤ most_whole → whole_part (whole_bits n) ≡ n
unfolding whole_part whole_bits in_float
value_back n h =
    ap (to_unsigned 64) (of_bits-to_bits binary64 (of_int binary64 (pos n)) (of_int-fits binary64 (pos n)))
    ∙ (unsigned_back binary64 64 n (le→leb n (2 ^ 53) (omega arith)) (omega arith)).1

whole_is : (n : ℕ) → n ≤ most_whole → is_whole (whole_bits n) ≡ true
unfolding is_whole
whole_is n h =
    ap (λ (x : ℕ). leb x most_whole && eqb (whole_bits x) (whole_bits n)) (value_back n h)
    ∙ ap (λ (x : Bool). x && eqb (whole_bits n) (whole_bits n)) (le-leb n most_whole h)
    ∙ eq-eqb (whole_bits n) (whole_bits n) refl

whole : (n : ℕ) → n ≤ most_whole → numeral (whole_bits n) ≡ decimals most_digits n []
unfolding numeral
whole n h = ap (printed (whole_bits n)) (whole_is n h) ∙ ap (λ (x : ℕ). decimals most_digits x []) (value_back n h)

other : (b : ℕ) → ((n : ℕ) → n ≤ most_whole → b ≡ whole_bits n → ⊥) → numeral b ≡ number_sign ∷ hexes hex_digits b []
unfolding numeral is_whole
other b f = go (is_whole b) refl
  where
    go : (t : Bool) → is_whole b ≡ t → printed b t ≡ number_sign ∷ hexes hex_digits b []
    go false e = refl
    go true e =
        let p = and_both (leb (whole_part b) most_whole) (eqb (whole_bits (whole_part b)) b) e in
        absurd (f (whole_part b) (leb-true (whole_part b) most_whole p.0) (sym (eqb-true (whole_bits (whole_part b)) b p.1)))

-- ---- fewest digits

-- a number below a power of ten is printed in no more digits
decimals_few : (k n m : ℕ) (w : List ℕ) → n < 10 ^ suc m → length (decimals k n w) ≤ suc m + length w
unfolding decimals
decimals_few zero n m w h = omega arith
decimals_few (suc k) n m w h = go (eqb (n / 10) 0) refl m h (λ i l. decimals_few k (n / 10) i ((48 + n % 10) ∷ w) l)
  where
    go : (t : Bool) → eqb (n / 10) 0 ≡ t → (m : ℕ) → n < 10 ^ suc m → ((i : ℕ) → n / 10 < 10 ^ suc i → length (decimals k (n / 10) ((48 + n % 10) ∷ w)) ≤ suc i + suc (length w))
        → length {A = ℕ} (elim t as (λ x. List ℕ) [ true ↦ (48 + n % 10) ∷ w | false ↦ decimals k (n / 10) ((48 + n % 10) ∷ w) ]) ≤ suc m + length w
    go true e m h rec = omega arith
    go false e zero h rec = let z = eqb-false (n / 10) 0 e in absurd (z (omega arith))
    go false e (suc m) h rec = let z = pow-succ' 10 (suc m) in let i = rec m (omega arith) in omega arith

fewest : (n : ℕ) → n ≤ most_whole → (w : List ℕ) → AllOf is_digit w → 0 < length w → decimal w ≡ n → length (decimals most_digits n []) ≤ length w
unfolding decimal
fewest n l [] h s e = absurd (omega arith)
fewest n l (c ∷ w) h s e =
    let d = digits_low 10 (λ x. x - 48) is_digit digit_low 0 (c ∷ w) h in
    let i = decimals_few most_digits n (length w) [] (omega arith) in
    omega arith

-- ---- capitals

capital : (d : ℕ) → d < 16 → is_capital_hex (hex_byte d) ≡ true
capital d h = go (leb d 9) refl
  where
    go : (b : Bool) → leb d 9 ≡ b → is_capital_hex (cond b (48 + d) (55 + d)) ≡ true
    go true q =
        let z = leb-true d 9 q in
        ap₂ (λ (x y : Bool). x && y || leb 65 (48 + d) && leb (48 + d) 70) (le-leb 48 (48 + d) (omega arith)) (le-leb (48 + d) 57 (omega arith))
    go false q =
        let z = leb-false d 9 q in
        ap₂ (λ (x y : Bool). is_digit (55 + d) || x && y) (le-leb 65 (55 + d) (omega arith)) (le-leb (55 + d) 70 (omega arith)) ∙ or-true (is_digit (55 + d))

capitals : (k n : ℕ) (w : List ℕ) → AllOf is_capital_hex w → AllOf is_capital_hex (hexes k n w)
unfolding hexes
capitals zero n w h = h
capitals (suc k) n w h = capitals k (n / 16) (hex_byte (n % 16) ∷ w) (capital (n % 16) (omega arith), h)

pub numerals : Numerals
numerals = record { whole = whole; other = other; fewest = fewest; capitals = λ b. capitals hex_digits b [] tt }
