-- Capital hex digits, 16 of them.
use Prim.Native.Nat.{ℕ, zero, suc, ◌+◌, ◌*◌, ◌/◌, ◌%◌, ◌^◌, ◌≤◌, ◌<◌}
use mathlib.Core.Path.{◌≡◌, refl, sym, ap, ap₂, ◌∙◌}
use mathlib.Core.List.{List, [], ◌∷◌, ◌++◌}
use mathlib.Core.Logic.{◌⊎◌, inl, inr}
use lib.ListN.{get_or, drop}
use lib.Seq.{drop-drop, get_or-drop}
use native.Mathlib.Omega.{arith}
use native.Mathlib.Nat.{pow-suc, eq-or-lt_of_le, le_of_suc-le-suc}
use native.Mathlib.Decide.{dec_lt}
use Rattle.definitions.specs.Listing.{hex, hex_from, hex_digit}
use Rattle.listing_lines.proofs.Spelling.{digit_low, digit_high}
use Rattle.listing_reader.specs.Numbers.{HexValue, Anything}
use Rattle.listing_reader.proofs.Found.{Unique}

-- ---- the definition, digit by digit
append_from : (k n : ℕ) (r s : List ℕ) → hex_from k n r ++ s ≡ hex_from k n (r ++ s)
unfolding hex_from
append_from zero n r s = refl
append_from (suc k) n r s = append_from k (n / 16) (hex_digit (n % 16) ∷ r) s

pub hex_append : (n : ℕ) (r : List ℕ) → hex n ++ r ≡ hex_from 16 n r
unfolding hex
hex_append n r = append_from 16 n [] r

pub hex_none : (r : List ℕ) → r ≡ hex_from 0 0 r
unfolding hex_from
hex_none r = refl

pub hex_more : (k v d : ℕ) (r : List ℕ) → d < 16 → hex_from k v (hex_digit d ∷ r) ≡ hex_from (suc k) (v * 16 + d) r
unfolding hex_from
hex_more k v d r h =
    let q : (v * 16 + d) / 16 ≡ v = omega arith in
    let m : (v * 16 + d) % 16 ≡ d = omega arith in
    sym (ap₂ (λ (x y : ℕ). hex_from k x (hex_digit y ∷ r)) q m)

past_from : (k n : ℕ) (r : List ℕ) → drop k (hex_from k n r) ≡ r
unfolding hex_from
past_from zero n r = refl
past_from (suc k) n r =
    let e : suc k ≡ k + 1 = omega arith in
    ap (λ (i : ℕ). drop i (hex_from k (n / 16) (hex_digit (n % 16) ∷ r))) e
    ∙ sym (drop-drop 1 k (hex_from k (n / 16) (hex_digit (n % 16) ∷ r)))
    ∙ ap (drop 1) (past_from k (n / 16) (hex_digit (n % 16) ∷ r))

-- each of the digits is one
pub record IsHexDigit (byte : ℕ) : Type 0 where
  pub value : ℕ
  pub below : value < 16
  pub is : byte ≡ hex_digit value

pub digit_at : (k n : ℕ) (r : List ℕ) (i : ℕ) → i < k → IsHexDigit (get_or (hex_from k n r) i 0)
unfolding hex_from
digit_at zero n r i h = absurd (omega arith)
digit_at (suc k) n r i h = go (digit_at k (n / 16) (hex_digit (n % 16) ∷ r) i) (eq-or-lt_of_le (le_of_suc-le-suc h))
  where
    go : (i < k → IsHexDigit (get_or (hex_from k (n / 16) (hex_digit (n % 16) ∷ r)) i 0)) → (i ≡ k) ⊎ (i < k) → IsHexDigit (get_or (hex_from k (n / 16) (hex_digit (n % 16) ∷ r)) i 0)
    go rec (inr l) = rec l
    go rec (inl e) = record {
      value = n % 16;
      below = omega arith;
      is =
          let z : i ≡ k + 0 = omega arith in
          ap (λ (j : ℕ). get_or (hex_from k (n / 16) (hex_digit (n % 16) ∷ r)) j 0) z
          ∙ sym (get_or-drop k (hex_from k (n / 16) (hex_digit (n % 16) ∷ r)) 0 0)
          ∙ ap (λ (x : List ℕ). get_or x 0 0) (past_from k (n / 16) (hex_digit (n % 16) ∷ r));
    }

-- ---- a digit tells its value
pub digit_injective : (a b : ℕ) → a < 16 → b < 16 → hex_digit a ≡ hex_digit b → a ≡ b
digit_injective a b l m e = go (dec_lt a 10) (dec_lt b 10)
  where
    go : Dec (a < 10) → Dec (b < 10) → a ≡ b
    go (yes p) (yes q) = let x = digit_low a p in let y = digit_low b q in omega (arith, sym x ∙ e ∙ y)
    go (yes p) (no q) = let x = digit_low a p in let y = digit_high b (omega arith) in absurd (omega (arith, sym x ∙ e ∙ y))
    go (no p) (yes q) = let x = digit_high a (omega arith) in let y = digit_low b q in absurd (omega (arith, sym x ∙ e ∙ y))
    go (no p) (no q) = let x = digit_high a (omega arith) in let y = digit_high b (omega arith) in omega (arith, sym x ∙ e ∙ y)

-- the byte of a digit
pub digit_byte : (d : ℕ) → d < 16 → ((d < 10) × (hex_digit d ≡ 48 + d)) ⊎ ((10 ≤ d) × (hex_digit d ≡ 55 + d))
digit_byte d h = go (dec_lt d 10)
  where
    go : Dec (d < 10) → ((d < 10) × (hex_digit d ≡ 48 + d)) ⊎ ((10 ≤ d) × (hex_digit d ≡ 55 + d))
    go (yes l) = inl (l, digit_low d l)
    go (no l) = let m : 10 ≤ d = omega arith in inr (m, digit_high d m)

pub value_of_digit : (v : ℕ) (byte : ℕ) → v < 16 → byte ≡ hex_digit v → HexValue byte v
value_of_digit v byte h e = record { digit = λ l. e; most = omega arith; only = λ d l p. digit_injective v d h l (sym e ∙ p) }

pub value_of_other : (byte : ℕ) → ((d : ℕ) → d < 16 → byte ≡ hex_digit d → ⊥) → HexValue byte 16
value_of_other byte h = record { digit = λ l. absurd (omega arith); most = omega arith; only = λ d l p. absurd (h d l p) }

-- ---- the digits tell the number
unique_from : (k n m : ℕ) (r s : List ℕ) → n < 16 ^ k → m < 16 ^ k → hex_from k n r ≡ hex_from k m s → (n ≡ m) × (r ≡ s)
unfolding hex_from
unique_from zero n m r s a b e = (let x : n < 1 = a in let y : m < 1 = b in omega arith, e)
unique_from (suc k) n m r s a b e =
    let p : 16 ^ suc k ≡ 16 ^ k * 16 = pow-suc 16 k in
    let rec = unique_from k (n / 16) (m / 16) (hex_digit (n % 16) ∷ r) (hex_digit (m % 16) ∷ s) (omega (arith, p)) (omega (arith, p)) e in
    let q : n / 16 ≡ m / 16 = rec.0 in
    let t : hex_digit (n % 16) ∷ r ≡ hex_digit (m % 16) ∷ s = rec.1 in
    let h : hex_digit (n % 16) ≡ hex_digit (m % 16) = ap (λ (x : List ℕ). get_or x 0 0) t in
    let d : n % 16 ≡ m % 16 = digit_injective (n % 16) (m % 16) (omega arith) (omega arith) h in
    (omega arith, ap (drop 1) t)

pub hex_unique : Unique (λ n r. hex n ++ r) Anything
hex_unique = record { same = λ n m r s a b c d e. unique_from 16 n m r s (omega arith) (omega arith) (sym (hex_append n r) ∙ e ∙ hex_append m s) }
