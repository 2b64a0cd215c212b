-- Digits read one by one.
use Prim.Native.Nat.{ℕ, zero, suc, ◌+◌, ◌-◌, ◌*◌, ◌^◌, ◌≤◌, ◌<◌}
use mathlib.Core.Path.{◌≡◌, refl, sym, ap, ◌∙◌, subst}
use mathlib.Core.Bool.{Bool, true, false, ◌&&◌, ◌||◌, cond, true≢false}
use mathlib.Core.List.{List, [], ◌∷◌}
use lib.ListN.{length, drop, get_or, drop_of_length-le}
use lib.Seq.{drop-cons}
use lib.Dec.{leb}
use native.Mathlib.Omega.{arith}
use native.Mathlib.Nat.{pow-zero, pow-suc, mul-le-mul_right, pow-le-pow_right, suc-mul}
use native.Mathlib.Numerals.{add-one}
use borrow.Author.Tests.{leb-true, le-leb, lt-leb}
use Rattle.text_language.specs.Grammar.{is_digit, is_hex, hex_digit, digits}
use Rattle.text_language.specs.Reader.{word}
use Rattle.text_language.proofs.Place.{word_cons}
use Rattle.text_program.specs.declared.numbers.Radix.{Radix}
use Rattle.text_program.specs.declared.numbers.Radix.TheVariants.{Decimal, Hexadecimal}
use Rattle.text_program.specs.Numbers.{base, accepts, DigitsRead}

-- ---- a digit

pub digit_ten : (c : ℕ) → c ≤ 57 → c - 48 ≡ hex_digit c
unfolding hex_digit
digit_ten c l = sym (ap (λ (b : Bool). cond b (c - 48) (cond (leb c 70) (c - 55) (c - 87))) (le-leb c 57 l))

module _ (c : ℕ) (h : 57 < c) where
  pub digit_high : c ≤ 70 → c - 55 ≡ hex_digit c
  unfolding hex_digit
  digit_high l =
      sym (ap (λ (b : Bool). cond b (c - 48) (cond (leb c 70) (c - 55) (c - 87))) (lt-leb c 57 h) ∙ ap (λ (b : Bool). cond b (c - 55) (c - 87)) (le-leb c 70 l))

  pub digit_last : 70 < c → c - 87 ≡ hex_digit c
  unfolding hex_digit
  digit_last l =
      sym (ap (λ (b : Bool). cond b (c - 48) (cond (leb c 70) (c - 55) (c - 87))) (lt-leb c 57 h) ∙ ap (λ (b : Bool). cond b (c - 55) (c - 87)) (lt-leb c 70 l))

and_both : (a b : Bool) → (a && b) ≡ true → (a ≡ true) × (b ≡ true)
and_both true b e = (refl, e)
and_both false b e = absurd (true≢false (sym e))

digit_below : (c : ℕ) → is_digit c ≡ true → hex_digit c < 10
digit_below c e = let p = and_both (leb 48 c) (leb c 57) e in let a = leb-true 48 c p.0 in let b = leb-true c 57 p.1 in let d = digit_ten c b in omega (arith, a, b, d)

hex_below : (c : ℕ) → is_hex c ≡ true → hex_digit c < 16
hex_below c e = go (is_digit c) (leb 65 c && leb c 70) refl refl e
  where
    go : (x y : Bool) → is_digit c ≡ x → (leb 65 c && leb c 70) ≡ y → (x || (y || leb 97 c && leb c 102)) ≡ true → hex_digit c < 16
    go true y p q e = let z = digit_below c p in omega (arith, z)
    go false true p q e = let r = and_both (leb 65 c) (leb c 70) q in let a = leb-true 65 c r.0 in let b = leb-true c 70 r.1 in let d = digit_high c (omega arith) b in omega (arith, a, b, d)
    go false false p q e = let r = and_both (leb 97 c) (leb c 102) e in let a = leb-true 97 c r.0 in let b = leb-true c 102 r.1 in let d = digit_last c (omega arith) (omega arith) in omega (arith, a, b, d)

pub digit_fits : (radix : Radix) (c : ℕ) → accepts radix c ≡ true → hex_digit c < base radix
digit_fits Decimal c e = digit_below c e
digit_fits Hexadecimal c e = hex_below c e

-- one digit more stays below one power more
pub more_low : (b value count d : ℕ) → value < b ^ count → d < b → value * b + d < b ^ (count + 1)
more_low b value count d l m =
    let p = pow-suc b count in
    let q = ap (λ (k : ℕ). b ^ k) (add-one count) in
    let r : suc value * b ≤ b ^ count * b = mul-le-mul_right b l in
    let t : suc value * b ≡ value * b + b = suc-mul value b in
    omega (arith, p, q, r, t)

-- ---- the loop

pub record Counting (s : List ℕ) (from : ℕ) (radix : Radix) (most value count : ℕ) : Type 0 where
  pub says : digits (base radix) hex_digit value (word (accepts radix) (most - count) (drop (from + count) s)) ≡ digits (base radix) hex_digit 0 (word (accepts radix) most (drop from s))
  pub many : count + length (word (accepts radix) (most - count) (drop (from + count) s)) ≡ length (word (accepts radix) most (drop from s))
  pub low : value < base radix ^ count
  pub few : count ≤ most
  pub high : from + count ≤ length s

pub counting_start : (s : List ℕ) (from : ℕ) (radix : Radix) (most : ℕ) → from ≤ length s → Counting s from radix most 0 0
counting_start s from radix most l =
    let e : from + 0 ≡ from = omega arith in
    let z : most - 0 ≡ most = omega arith in
    record {
      says = ap (λ (k : ℕ). digits (base radix) hex_digit 0 (word (accepts radix) k (drop (from + 0) s))) z ∙ ap (λ (k : ℕ). digits (base radix) hex_digit 0 (word (accepts radix) most (drop k s))) e;
      many = let a = ap (λ (k : ℕ). length (word (accepts radix) k (drop (from + 0) s))) z in let b = ap (λ (k : ℕ). length (word (accepts radix) most (drop k s))) e in omega (arith, a, b);
      low = let p = pow-zero (base radix) in omega (arith, p);
      few = omega arith;
      high = omega arith;
    }

module _ (s : List ℕ) (from : ℕ) (radix : Radix) (most value count : ℕ) (k : Counting s from radix most value count) where
  -- no digit follows
  counting_stop : word (accepts radix) (most - count) (drop (from + count) s) ≡ [] → DigitsRead s from radix most (record { value = value; count = count })
  unfolding digits
  counting_stop e = record {
    value = ap (digits (base radix) hex_digit value) (sym e) ∙ k.says;
    count = let a = ap (λ (w : List ℕ). length w) e in let b = k.many in omega (arith, a, b);
    low = k.low;
  }

  pub counting_full : most ≤ count → DigitsRead s from radix most (record { value = value; count = most })
  unfolding word
  counting_full l =
      let z : most - count ≡ 0 = omega arith in
      let f = k.few in
      let e : count ≡ most = omega arith in
      subst (λ (n : ℕ). DigitsRead s from radix most (record { value = value; count = n })) e (counting_stop (ap (λ (n : ℕ). word (accepts radix) n (drop (from + count) s)) z))

  pub counting_end : length s ≤ from + count → DigitsRead s from radix most (record { value = value; count = count })
  unfolding word
  counting_end l = counting_stop (ap (word (accepts radix) (most - count)) (drop_of_length-le s {i = from + count} l) ∙ nil (most - count))
    where
      nil : (n : ℕ) → word (accepts radix) n [] ≡ []
      nil zero = refl
      nil (suc n) = refl

  module _ (l : from + count < length s) (m : count < most) where
    ahead : (b : Bool) → accepts radix (get_or s (from + count) 0) ≡ b
        → word (accepts radix) (most - count) (drop (from + count) s) ≡ elim b [ true ↦ get_or s (from + count) 0 ∷ word (accepts radix) (most - (count + 1)) (drop (from + (count + 1)) s) | false ↦ [] ]
    ahead b e =
        let z : most - count ≡ suc (most - (count + 1)) = omega arith in
        let y : suc (from + count) ≡ from + (count + 1) = omega arith in
        ap (λ (n : ℕ). word (accepts radix) n (drop (from + count) s)) z
        ∙ ap (word (accepts radix) (suc (most - (count + 1)))) (drop-cons s (from + count) 0 l)
        ∙ word_cons (accepts radix) (most - (count + 1)) (get_or s (from + count) 0) (drop (suc (from + count)) s) b e
        ∙ ap (λ (n : ℕ). elim b as (λ _. List ℕ) [ true ↦ get_or s (from + count) 0 ∷ word (accepts radix) (most - (count + 1)) (drop n s) | false ↦ [] ]) y

    pub counting_other : accepts radix (get_or s (from + count) 0) ≡ false → DigitsRead s from radix most (record { value = value; count = count })
    counting_other e = counting_stop (ahead false e)

    module _ (e : accepts radix (get_or s (from + count) 0) ≡ true) where
      pub counting_low : value * base radix + hex_digit (get_or s (from + count) 0) < base radix ^ (count + 1)
      counting_low = more_low (base radix) value count (hex_digit (get_or s (from + count) 0)) k.low (digit_fits radix (get_or s (from + count) 0) e)

      pub counting_fits : base radix ^ most ≤ 18446744073709551616 → value * base radix + hex_digit (get_or s (from + count) 0) < 18446744073709551616
      counting_fits b = let a = counting_low in let c : base radix ^ (count + 1) ≤ base radix ^ most = pow-le-pow_right (positive radix) (omega arith) in omega (arith, a, b, c)
        where
          positive : (radix : Radix) → 0 < base radix
          positive Decimal = omega arith
          positive Hexadecimal = omega arith

      pub counting_on : Counting s from radix most (value * base radix + hex_digit (get_or s (from + count) 0)) (count + 1)
      unfolding digits
      counting_on = record {
        says = ap (digits (base radix) hex_digit value) (sym (ahead true e)) ∙ k.says;
        many = let a = ap (λ (w : List ℕ). length w) (ahead true e) in let b = k.many in omega (arith, a, b);
        low = counting_low;
        few = omega arith;
        high = omega arith;
      }
