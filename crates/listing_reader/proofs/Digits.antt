-- Numbers read digit by digit from a place of the bytes.
use Prim.Native.Nat.{ℕ, zero, suc, ◌+◌, ◌*◌, ◌-◌, ◌^◌, ◌≤◌, ◌<◌}
use mathlib.Core.Path.{◌≡◌, refl, sym, ap, ap₂, ◌∙◌, subst}
use mathlib.Core.Bool.{Bool, true, false, cond, false≢true}
use mathlib.Core.List.{List, ◌∷◌, ◌++◌}
use mathlib.Core.Logic.{◌⊎◌, inl, inr}
use lib.ListN.{length, get_or, drop}
use lib.Seq.{get_or-drop, drop-cons}
use lib.Dec.{ltb}
use native.Mathlib.Omega.{arith}
use native.Mathlib.Numerals.{add-one}
use native.Mathlib.Nat.{pow-suc, pow-le-pow_right}
use Rattle.definitions.specs.Listing.{decimal, hex, hex_from, hex_digit, space}
use Rattle.listing_reader.specs.declared.number.NumberRead.{NumberRead}
use Rattle.std.specs.Prelude.{Option, Some, None}
use Rattle.listing_reader.specs.Numbers.{number_read, AfterSpace, word_end, is_digit, EndsDigits, Anything, HexValue, ReadsNumber}
use Rattle.listing_reader.proofs.Bytes.{here, byte_then, at_start, first_byte, digit_range, range_digit}
use Rattle.listing_reader.proofs.Found.{reads_found, reads_nothing}
use Rattle.listing_reader.proofs.Decimal.{decimal_one, decimal_more, first_digit, starts_with_digit, too_large}
use Rattle.listing_reader.proofs.Hex.{hex_append, hex_more, digit_at, digit_byte, value_of_digit, value_of_other}
use Rattle.listing_lines.proofs.Spelling.{digit_low, digit_high}

-- what a test of the byte at a place says of it
pub tested : {b c : ℕ} {t v : Bool} → b ≡ c → t ≡ is_digit b → t ≡ v → is_digit c ≡ v
tested p q r = sym (q ∙ ap is_digit p) ∙ r

-- a digit is there, and its byte is at least that of 0
module _ (l : List ℕ) (i : ℕ) {b : ℕ} {t : Bool} (p : b ≡ get_or l i 0) (q : t ≡ is_digit b) (r : t ≡ true) where
  pub digit_here : i < length l
  digit_here = let h = digit_range (get_or l i 0) (tested p q r) in let low = h.0 in here l i (omega arith)

  pub above_zero : {a : ℕ} → a ≡ get_or l i 0 → 48 ≤ a
  above_zero e = let h = digit_range (get_or l i 0) (tested p q r) in let low = h.0 in omega arith

-- a digit that is not 0
pub digit_above : {b c : ℕ} {t : Bool} → b ≡ c → t ≡ is_digit b → t ≡ true → (b ≡ 48 → ⊥) → (48 < c) × (c ≤ 57)
digit_above {c = c} p q r n = let h = digit_range c (tested p q r) in let low = h.0 in (omega arith, h.1)

-- ---- decimal

-- the digits between two places are a number's
pub record Digits (bytes : List ℕ) (at value next : ℕ) : Type 0 where
  pub text : drop at bytes ≡ decimal value ++ drop next bytes
  pub any : 1 ≤ value
  pub small : value < word_end

pub digits_here : (l : List ℕ) (i : ℕ) → 48 < get_or l i 0 → i < length l
digits_here l i h = here l i (omega arith)

pub digits_one : (bytes : List ℕ) (at b : ℕ) → b ≡ get_or bytes at 0 → 48 < get_or bytes at 0 → get_or bytes at 0 ≤ 57 → Digits bytes at (b - 48) (at + 1)
digits_one bytes at b e l m =
    let z : b ≡ 48 + (b - 48) = omega arith in
    record {
      text = byte_then bytes at b (omega arith) (sym e) ∙ ap (λ (x : ℕ). x ∷ drop (at + 1) bytes) z ∙ decimal_one (b - 48) (drop (at + 1) bytes) (omega arith);
      any = omega arith;
      small = omega arith;
    }

module _ {bytes : List ℕ} {at value next : ℕ} (d : Digits bytes at value next) (b : ℕ) (e : b ≡ get_or bytes next 0) where
  digit_then : is_digit (get_or bytes next 0) ≡ true → drop next bytes ≡ (48 + (b - 48)) ∷ drop (next + 1) bytes
  digit_then t =
      let r = digit_range (get_or bytes next 0) t in
      let low = r.0 in
      let z : b ≡ 48 + (b - 48) = omega arith in
      byte_then bytes next b (omega arith) (sym e) ∙ ap (λ (x : ℕ). x ∷ drop (next + 1) bytes) z

  pub digits_more : is_digit (get_or bytes next 0) ≡ true → value * 10 + (b - 48) < word_end → Digits bytes at (value * 10 + (b - 48)) (next + 1)
  digits_more t s =
      let r = digit_range (get_or bytes next 0) t in
      let low = r.0 in
      let high = r.1 in
      let any : 1 ≤ value = d.any in
      record {
        text = d.text ∙ ap (λ (x : List ℕ). decimal value ++ x) (digit_then t) ∙ decimal_more value (b - 48) (drop (next + 1) bytes) any (omega arith) s;
        any = omega arith;
        small = s;
      }

  pub digits_over : is_digit (get_or bytes next 0) ≡ true → word_end ≤ value * 10 + (b - 48) → ReadsNumber (λ n rest. decimal n ++ rest) EndsDigits bytes at None
  digits_over t s = reads_nothing (λ n rest l f p.
      let r = digit_range (get_or bytes next 0) t in
      let high = r.1 in
      too_large value (b - 48) (drop (next + 1) bytes) d.small (omega arith) s n rest l f (sym (d.text ∙ ap (λ (x : List ℕ). decimal value ++ x) (digit_then t)) ∙ p))

pub digits_end : {bytes : List ℕ} {at value next : ℕ} → Digits bytes at value next → is_digit (get_or bytes next 0) ≡ false → ReadsNumber (λ n rest. decimal n ++ rest) EndsDigits bytes at (Some (number_read value next))
digits_end {bytes} {at} {value} {next} d t = reads_found value next (record {
  text = d.text;
  follows = record { ends = ap is_digit (at_start bytes next) ∙ t };
  small = d.small;
})

-- no digit, no number
pub no_digit : (bytes : List ℕ) (at : ℕ) → is_digit (get_or bytes at 0) ≡ false → ReadsNumber (λ n rest. decimal n ++ rest) EndsDigits bytes at None
no_digit bytes at t = reads_nothing (λ n rest l f p.
    false≢true (sym t ∙ sym (ap is_digit (at_start bytes at)) ∙ ap (λ (x : List ℕ). is_digit (get_or x 0 0)) p ∙ starts_with_digit n rest l))

module _ (bytes : List ℕ) (at : ℕ) (is : get_or bytes at 0 ≡ 48) where
  zero_then : drop at bytes ≡ decimal 0 ++ drop (at + 1) bytes
  zero_then = byte_then bytes at 48 (omega arith) is ∙ decimal_one 0 (drop (at + 1) bytes) (omega arith)

  -- 0 alone
  pub zero_alone : is_digit (get_or bytes (at + 1) 0) ≡ false → ReadsNumber (λ n rest. decimal n ++ rest) EndsDigits bytes at (Some (number_read 0 (at + 1)))
  zero_alone t =
      reads_found 0 (at + 1) (record {
        text = zero_then;
        follows = record { ends = ap is_digit (at_start bytes (at + 1)) ∙ t };
        small = omega arith;
      })

  -- no number in fewest digits starts with 0 and goes on
  pub leading_zero : is_digit (get_or bytes (at + 1) 0) ≡ true → ReadsNumber (λ n rest. decimal n ++ rest) EndsDigits bytes at None
  leading_zero t = reads_nothing (λ n rest l f p. go n rest l f p)
    where
      go : (n : ℕ) (rest : List ℕ) → n < word_end → EndsDigits rest → drop at bytes ≡ decimal n ++ rest → ⊥
      go zero rest l f p =
          let z : 48 ∷ drop (at + 1) bytes ≡ 48 ∷ rest = sym (byte_then bytes at 48 (omega arith) is) ∙ p ∙ sym (decimal_one 0 rest (omega arith)) in
          let q : drop (at + 1) bytes ≡ rest = ap (drop 1) z in
          false≢true (sym f.ends ∙ ap (λ (x : List ℕ). is_digit (get_or x 0 0)) (sym q) ∙ ap is_digit (at_start bytes (at + 1)) ∙ t)
      go (suc n) rest l f p =
          let h = first_digit (suc n) rest (omega arith) l in
          let low = h.0 in
          let e : get_or (decimal (suc n) ++ rest) 0 0 ≡ 48 = ap (λ (x : List ℕ). get_or x 0 0) (sym p) ∙ at_start bytes at ∙ is in
          omega arith

-- ---- hex

-- so many hex digits from a place on are a number's
pub record HexDigits (bytes : List ℕ) (at value next read : ℕ) : Type 0 where
  pub text : drop at bytes ≡ hex_from read value (drop next bytes)
  pub small : value < 16 ^ read
  pub few : read ≤ 16
  pub here : next ≡ at + read

pub hex_start : (bytes : List ℕ) (at : ℕ) → HexDigits bytes at 0 at 0
unfolding hex_from
hex_start bytes at = record { text = refl; small = omega arith; few = omega arith; here = omega arith }

module _ {bytes : List ℕ} {at value next read : ℕ} (h : HexDigits bytes at value next read) (b d : ℕ) (e : b ≡ get_or bytes next 0) (v : HexValue b d) where
  -- a byte that is a digit is there
  pub hex_here : (d ≡ 16 → ⊥) → next < length bytes
  hex_here l =
      let m = v.most in
      let p : b ≡ hex_digit d = v.digit (omega arith) in
      let q = above d in
      here bytes next (omega arith)
    where
      above : (d : ℕ) → 48 ≤ hex_digit d
      above d = go (ltb d 10)
        where
          go : (t : Bool) → 48 ≤ cond t (48 + d) (55 + d)
          go true = omega arith
          go false = omega arith

  pub hex_next : (d ≡ 16 → ⊥) → read < 16 → HexDigits bytes at (value * 16 + d) (next + 1) (read + 1)
  hex_next l r =
      let m = v.most in
      let k : d < 16 = omega arith in
      let s : value < 16 ^ read = h.small in
      let w : 16 ^ suc read ≡ 16 ^ read * 16 = pow-suc 16 read in
      let o : suc read ≡ read + 1 = omega arith in
      let i = h.here in
      record {
        text =
            h.text
            ∙ ap (hex_from read value) (drop-cons bytes next 0 (hex_here l) ∙ ap₂ (λ (x : ℕ) (y : List ℕ). x ∷ y) (sym e ∙ v.digit k) (ap (λ (j : ℕ). drop j bytes) (sym (add-one next))))
            ∙ hex_more read value d (drop (next + 1) bytes) k
            ∙ ap (λ (j : ℕ). hex_from j (value * 16 + d) (drop (next + 1) bytes)) o;
        small = subst (λ (j : ℕ). value * 16 + d < 16 ^ j) o (omega (arith, w));
        few = omega arith;
        here = omega arith;
      }

  -- no digit, no number
  pub no_hex : d ≡ 16 → read < 16 → ReadsNumber (λ n rest. hex n ++ rest) Anything bytes at None
  no_hex l r = reads_nothing (λ n rest s f p.
      let g = digit_at 16 n rest read r in
      let i = h.here in
      let q : get_or (hex_from 16 n rest) read 0 ≡ b =
      ap (λ (x : List ℕ). get_or x read 0) (sym (p ∙ hex_append n rest)) ∙ get_or-drop at bytes read 0 ∙ ap (λ (j : ℕ). get_or bytes j 0) (sym i) ∙ sym e in
      let w = v.only g.value g.below (sym q ∙ g.is) in
      let m = g.below in
      omega arith)

-- one digit more still fits a word
pub fits_more : {bytes : List ℕ} {at value next read : ℕ} → HexDigits bytes at value next read → read < 16 → value < 2 ^ 60
fits_more {value = value} {read = read} h l =
    let s : value < 16 ^ read = h.small in
    let p : 16 ^ read ≤ 16 ^ 15 = pow-le-pow_right {n = 16} (omega arith) {i = read} {j = 15} (omega arith) in
    omega arith

pub hex_end : {bytes : List ℕ} {at value next read : ℕ} → HexDigits bytes at value next read → 16 ≤ read → ReadsNumber (λ n rest. hex n ++ rest) Anything bytes at (Some (number_read value next))
hex_end {bytes} {at} {value} {next} {read} h l =
    let f : read ≤ 16 = h.few in
    let z : read ≡ 16 = omega arith in
    reads_found value next (record {
      text = h.text ∙ ap (λ (j : ℕ). hex_from j value (drop next bytes)) z ∙ sym (hex_append value (drop next bytes));
      follows = record {};
      small = subst (λ (j : ℕ). value < 16 ^ j) z h.small;
    })

-- ---- after a space

pub no_space : (bytes : List ℕ) (at b : ℕ) → b ≡ get_or bytes at 0 → (b ≡ space → ⊥) → AfterSpace bytes at None
no_space bytes at b e h = record { found = λ next q. absurd (let z : ◌≡◌ {A = ℕ} 0 1 = cc in omega arith); nothing = λ q rest p. h (e ∙ first_byte bytes at space rest p) }

pub one_space : (bytes : List ℕ) (at b : ℕ) → b ≡ get_or bytes at 0 → b ≡ space → AfterSpace bytes at (Some (at + 1))
one_space bytes at b e h = record {
  found = λ next q. let n : at + 1 ≡ next = cc in byte_then bytes at space (omega arith) (sym e ∙ h) ∙ ap (λ (j : ℕ). space ∷ drop j bytes) n;
  nothing = λ q. absurd (let z : ◌≡◌ {A = ℕ} 0 1 = cc in omega arith);
}

module _ (spell : ℕ → List ℕ → List ℕ) (Follows : List ℕ → Type 0) (bytes : List ℕ) (at : ℕ) where
  pub spaced_not : AfterSpace bytes at None → ReadsNumber (λ n rest. space ∷ spell n rest) Follows bytes at None
  spaced_not s = reads_nothing (λ n rest l f p. s.nothing refl (spell n rest) p)

  pub spaced_number : (next : ℕ) → AfterSpace bytes at (Some next) → (r : Option NumberRead) → ReadsNumber spell Follows bytes next r → ReadsNumber (λ n rest. space ∷ spell n rest) Follows bytes at r
  spaced_number next s r d = record {
    found = λ n after q. let t = d.found n after q in record { text = here_then ∙ ap (λ (x : List ℕ). space ∷ x) t.text; follows = t.follows; small = t.small };
    nothing = λ q n rest l f p. d.nothing q n rest l f (ap (drop 1) (sym here_then ∙ p));
  }
    where
      here_then : drop at bytes ≡ space ∷ drop next bytes
      here_then = s.found next refl

-- ---- the value of a hex digit

pub decimal_value : (b : ℕ) → 48 ≤ b → b ≤ 57 → HexValue b (b - 48)
decimal_value b l m =
    let z : b ≡ 48 + (b - 48) = omega arith in
    value_of_digit (b - 48) b (omega arith) (z ∙ sym (digit_low (b - 48) (omega arith)))

pub letter_value : (b : ℕ) → 65 ≤ b → b ≤ 70 → HexValue b (b - 55)
letter_value b l m =
    let z : b ≡ 55 + (b - 55) = omega arith in
    value_of_digit (b - 55) b (omega arith) (z ∙ sym (digit_high (b - 55) (omega arith)))

pub other_value : (b : ℕ) → is_digit b ≡ false → (b < 65) ⊎ (70 < b) → HexValue b 16
other_value b t h = value_of_other b (λ d l e. go d l e (digit_byte d l) h)
  where
    go : (d : ℕ) → d < 16 → b ≡ hex_digit d → ((d < 10) × (hex_digit d ≡ 48 + d)) ⊎ ((10 ≤ d) × (hex_digit d ≡ 55 + d)) → (b < 65) ⊎ (70 < b) → ⊥
    go d l e (inl p) q = let x = p.0 in let y : b ≡ 48 + d = e ∙ p.1 in false≢true (sym t ∙ range_digit b (omega arith) (omega arith))
    go d l e (inr p) (inl q) = let x = p.0 in let y : b ≡ 55 + d = e ∙ p.1 in omega arith
    go d l e (inr p) (inr q) = let x = p.0 in let y : b ≡ 55 + d = e ∙ p.1 in omega arith
