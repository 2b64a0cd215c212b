-- Which constants are printed as whole numbers.
use Rattle.std.proofs.Common.{◌≡◌, ℕ, ◌+◌, ◌*◌, ◌^◌, ◌<◌, ◌≤◌, Bool, true, false, not, T, pos, sym, refl, ap, ◌∙◌, subst, mul-lt-mul_of_pos_right, arith, lt-ltb}
use lib.Ieee.{Float, nan, inf, fin, binary64, of_bits, of_int, to_unsigned, is_nan, lt, up, down}
use lib.Ieee.Bits.{of_bits-to_bits, nan_bits_is}
use lib.Ieee.Fits.{of_int-fits}
use lib.Ieee.Exact.{HasValue}
use lib.Ieee.Back.{round_whole}
use lib.Ieee.Fits.{down_pos}
use Rattle.text_language.specs.Grammar.{whole_bits}
use Rattle.expression_text.specs.Numeral.{numeral, whole_part}
use Rattle.expression_text.specs.Numeral.{most_whole}
use Rattle.std.specs.Prelude.{Some, None}
use Rattle.writer.specs.Placing.{IsWhole}
use Rattle.text_language.proofs.Sound.{absurd_bool}
use Rattle.expression_text.specs.Proper.{number_bits}
use Rattle.expression_text.proofs.Listing.{numerals, value_back}
use Rattle.expression_text.proofs.Forms.{is_number, whole_bits_lem}

pub whole_yes : (b n : ℕ) → n ≤ most_whole → whole_bits n ≡ b → IsWhole b (Some n)
whole_yes b n h e = (h, ap numeral (sym e) ∙ numerals.whole n h)

-- no whole number from 0 to 999,999,999 has the bits
abbrev pub NoWhole : ℕ → Type 0
NoWhole b = (n : ℕ) → n ≤ most_whole → whole_bits n ≡ b → ⊥

pub whole_no : (b : ℕ) → NoWhole b → IsWhole b None
whole_no b none = numerals.other b (λ n h e. none n h (sym e))

-- ---- a whole number's value

value_is : (n : ℕ) → n ≤ most_whole → HasValue (of_int binary64 (pos n)) false n 1
unfolding of_int
value_is n h = round_whole binary64 false n (omega arith)

module _ (b n : ℕ) (h : n ≤ most_whole) (e : whole_bits n ≡ b) where
  bits_value : of_bits binary64 b ≡ of_int binary64 (pos n)
  unfolding whole_bits
  bits_value = ap (of_bits binary64) (sym e) ∙ of_bits-to_bits binary64 (of_int binary64 (pos n)) (of_int-fits binary64 (pos n))

  has : HasValue (of_bits binary64 b) false n 1
  has = subst (λ (x : Float). HasValue x false n 1) (sym bits_value) (value_is n h)

value_number : (x : Float) (n : ℕ) → HasValue x false n 1 → T (not (is_nan x))
unfolding is_nan
value_number nan n v = v
value_number (inf s) n v = absurd v
value_number (fin s m e) n v = tt

value_above : (x : Float) (n : ℕ) → HasValue x false n 1 → lt (fin true 1 (pos 0)) x ≡ true
unfolding lt
value_above nan n v = absurd v
value_above (inf s) n v = absurd v
value_above (fin true m e) n v = absurd (absurd_bool refl v.0)
value_above (fin false m e) n v =
    let z = down_pos e in
    let g : 0 < 1 * up (pos 0) * down e + m * up e * down (pos 0) = omega arith in
    lt-ltb _ _ g

value_below : (x : Float) (n : ℕ) → n ≤ most_whole → HasValue x false n 1 → lt x (fin false 1 (pos 64)) ≡ true
unfolding lt
value_below nan n h v = absurd v
value_below (inf s) n h v = absurd v
value_below (fin true m e) n h v = absurd (absurd_bool refl v.0)
value_below (fin false m e) n h v =
    let small : n < 18446744073709551616 = omega arith in
    let p : n * down e < 18446744073709551616 * down e = mul-lt-mul_of_pos_right small (down_pos e) in
    let g : m * up e * 1 < 18446744073709551616 * down e = subst (λ (x : ℕ). x < 18446744073709551616 * down e) (sym v.1) p in
    lt-ltb _ _ g

no_nan : (t : Bool) → T (not t) → t ≡ false
no_nan true h = absurd h
no_nan false h = refl

module _ (b : ℕ) where
  pub nan_no : number_bits b ≡ false → NoWhole b
  nan_no l n h e =
      absurd_bool
      (is_number b (record { low = subst (λ (x : ℕ). x < 2 ^ 64) e (whole_bits_lem n); number = nan_bits_is binary64 b ∙ no_nan (is_nan (of_bits binary64 b)) (value_number (of_bits binary64 b) n (has b n h e)) }))
      l

  pub low_no : lt (fin true 1 (pos 0)) (of_bits binary64 b) ≡ false → NoWhole b
  low_no l n h e = absurd_bool (value_above (of_bits binary64 b) n (has b n h e)) l

  pub high_no : lt (of_bits binary64 b) (fin false 1 (pos 64)) ≡ false → NoWhole b
  high_no l n h e = absurd_bool (value_below (of_bits binary64 b) n h (has b n h e)) l

  unsigned_is : (n : ℕ) → n ≤ most_whole → whole_bits n ≡ b → to_unsigned 64 (of_bits binary64 b) ≡ n
  unfolding whole_part
  unsigned_is n h e = ap whole_part (sym e) ∙ value_back n h

  pub great_no : (m : ℕ) → m ≡ to_unsigned 64 (of_bits binary64 b) → most_whole < m → NoWhole b
  great_no m t l n h e = let z = unsigned_is n h e in omega arith

  pub other_no : (m : ℕ) → m ≡ to_unsigned 64 (of_bits binary64 b) → (whole_bits m ≡ b → ⊥) → NoWhole b
  other_no m t l n h e = l (ap whole_bits (t ∙ unsigned_is n h e) ∙ e)

pub whole_number : (n : ℕ) → n ≤ most_whole → T (not (is_nan (of_int binary64 (pos n))))
whole_number n h = value_number (of_int binary64 (pos n)) n (value_is n h)
