-- Digits written from the last one back, at the end of an array.
use Prim.Native.Nat.{ℕ, zero, suc, ◌+◌, ◌*◌, ◌-◌, ◌/◌, ◌%◌, ◌^◌, ◌≤◌, ◌<◌}
use mathlib.Core.Path.{◌≡◌, sym, ap, ap₂, ◌∙◌, subst}
use mathlib.Core.Bool.{Bool, true, false, cond}
use mathlib.Core.List.{List, [], ◌∷◌}
use lib.ListN.{length, drop, set, length-set}
use lib.Seq.{drop-cons, drop-set-lt, get_or-set_same, lt-length-set}
use lib.Dec.{lit≤}
use native.Mathlib.Omega.{arith}
use native.Mathlib.Nat.{pow-suc}
use borrow.Author.Tests.{lt-ltb, le-ltb}
use Rattle.definitions.specs.Listing.{decimal, decimal_from, hex, hex_from, hex_digit}

-- ---- one digit more, before the others
pub digits_more : (l : List ℕ) (f v : ℕ) → 1 ≤ f → f ≤ length l → drop (f - 1) (set l (f - 1) v) ≡ v ∷ drop f l
digits_more l zero v h k = absurd (omega arith)
digits_more l (suc f) v h k =
    let e : suc f - 1 ≡ f = omega arith in
    ap (λ (i : ℕ). drop i (set l i v)) e
    ∙ drop-cons (set l f v) f 0 (lt-length-set l f v (omega arith))
    ∙ ap₂ (λ (a : ℕ) (r : List ℕ). a ∷ r) (get_or-set_same l f v 0 (omega arith)) (drop-set-lt (suc f) l f v (omega arith))

pub digit_low : (d : ℕ) → d < 10 → hex_digit d ≡ 48 + d
digit_low d h = ap (λ (b : Bool). cond b (48 + d) (55 + d)) (lt-ltb d 10 h)

pub digit_high : (d : ℕ) → 10 ≤ d → hex_digit d ≡ 55 + d
digit_high d h = ap (λ (b : Bool). cond b (48 + d) (55 + d)) (le-ltb d 10 h)

-- ---- decimal
pub decimal_step : (f n : ℕ) (r : List ℕ) → 10 ≤ n → decimal_from (suc f) n r ≡ decimal_from f (n / 10) ((48 + n % 10) ∷ r)
unfolding decimal_from
decimal_step f n r h = ap (λ (b : Bool). elim b [ true ↦ (48 + n) ∷ r | false ↦ decimal_from f (n / 10) ((48 + n % 10) ∷ r) ]) (le-ltb n 10 h)

pub decimal_last : (f n : ℕ) (r : List ℕ) → n < 10 → decimal_from (suc f) n r ≡ (48 + n) ∷ r
unfolding decimal_from
decimal_last f n r h = ap (λ (b : Bool). elim b [ true ↦ (48 + n) ∷ r | false ↦ decimal_from f (n / 10) ((48 + n % 10) ∷ r) ]) (lt-ltb n 10 h)

-- what is left of a number, over the digits written
pub record DecimalLeft (n : ℕ) (bytes : List ℕ) (first rest : ℕ) : Type 0 where
  pub left : decimal_from first rest (drop first bytes) ≡ decimal n
  pub room : rest < 10 ^ first
  pub any : 1 ≤ first
  pub within : first ≤ 20
  pub long : length bytes ≡ 20

pub decimal_none : (n : ℕ) (bytes : List ℕ) → n < 18446744073709551616 → drop 20 bytes ≡ [] → length bytes ≡ 20 → DecimalLeft n bytes 20 n
unfolding decimal
decimal_none n bytes h e l = record { left = ap (decimal_from 20 n) e; room = small; any = lit≤ tt; within = lit≤ tt; long = l }
  where
    small : n < 10 ^ 20
    small = omega arith

module _ (n : ℕ) (bytes : List ℕ) where
  pub decimal_more : (first rest v : ℕ) → DecimalLeft n bytes first rest → 10 ≤ rest → v ≡ hex_digit (rest % 10) → DecimalLeft n (set bytes (first - 1) v) (first - 1) (rest / 10)
  decimal_more zero rest v d h e = absurd (let a = d.any in omega arith)
  decimal_more (suc zero) rest v d h e = absurd (let r : rest < 10 ^ 1 = d.room in omega arith)
  decimal_more (suc (suc f)) rest v d h e =
      let long : length bytes ≡ 20 = d.long in
      let few : suc (suc f) ≤ 20 = d.within in
      let small : rest < 10 ^ suc (suc f) = d.room in
      let p : 10 ^ suc (suc f) ≡ 10 ^ suc f * 10 = pow-suc 10 (suc f) in
      let one : suc (suc f) - 1 ≡ suc f = omega arith in
      let low : v ≡ 48 + rest % 10 = e ∙ digit_low (rest % 10) (omega arith) in
      record {
        left =
            ap₂ (λ (i : ℕ) (r : List ℕ). decimal_from i (rest / 10) r) one (digits_more bytes (suc (suc f)) v (omega arith) (omega arith) ∙ ap (λ (x : ℕ). x ∷ drop (suc (suc f)) bytes) low)
            ∙ sym (decimal_step (suc f) rest (drop (suc (suc f)) bytes) h)
            ∙ d.left;
        room = subst (λ (i : ℕ). rest / 10 < 10 ^ i) (sym one) (omega (arith, p));
        any = omega arith;
        within = omega arith;
        long = length-set bytes (suc (suc f) - 1) v ∙ long;
      }

  pub decimal_end : (first rest v : ℕ) → DecimalLeft n bytes first rest → rest < 10 → v ≡ hex_digit rest → drop (first - 1) (set bytes (first - 1) v) ≡ decimal n
  decimal_end zero rest v d h e = absurd (let a = d.any in omega arith)
  decimal_end (suc f) rest v d h e =
      let long : length bytes ≡ 20 = d.long in
      let few : suc f ≤ 20 = d.within in
      digits_more bytes (suc f) v (omega arith) (omega arith)
      ∙ ap (λ (x : ℕ). x ∷ drop (suc f) bytes) (e ∙ digit_low rest h)
      ∙ sym (decimal_last f rest (drop (suc f) bytes) h)
      ∙ d.left

-- ---- hex
pub record HexLeft (n : ℕ) (bytes : List ℕ) (first rest : ℕ) : Type 0 where
  pub left : hex_from (first - 4) rest (drop first bytes) ≡ hex n
  pub any : 4 ≤ first
  pub within : first ≤ 20
  pub long : length bytes ≡ 20

pub hex_none : (n : ℕ) (bytes : List ℕ) → drop 20 bytes ≡ [] → length bytes ≡ 20 → HexLeft n bytes 20 n
unfolding hex
hex_none n bytes e l = record { left = ap (hex_from 16 n) e; any = lit≤ tt; within = lit≤ tt; long = l }

hex_step : (k n : ℕ) (r : List ℕ) → 1 ≤ k → hex_from k n r ≡ hex_from (k - 1) (n / 16) (hex_digit (n % 16) ∷ r)
unfolding hex_from
hex_step zero n r h = absurd (omega arith)
hex_step (suc k) n r h = let e : k ≡ suc k - 1 = omega arith in ap (λ (i : ℕ). hex_from i (n / 16) (hex_digit (n % 16) ∷ r)) e

module _ (n : ℕ) (bytes : List ℕ) (first rest : ℕ) (d : HexLeft n bytes first rest) where
  pub hex_more : (v : ℕ) → 4 < first → v ≡ hex_digit (rest % 16) → HexLeft n (set bytes (first - 1) v) (first - 1) (rest / 16)
  hex_more v h e =
      let long : length bytes ≡ 20 = d.long in
      let few : first ≤ 20 = d.within in
      let one : first - 1 - 4 ≡ first - 4 - 1 = omega arith in
      record {
        left =
            ap₂ (λ (i : ℕ) (r : List ℕ). hex_from i (rest / 16) r) one (digits_more bytes first v (omega arith) (omega arith) ∙ ap (λ (x : ℕ). x ∷ drop first bytes) e)
            ∙ sym (hex_step (first - 4) rest (drop first bytes) (omega arith))
            ∙ d.left;
        any = omega arith;
        within = omega arith;
        long = length-set bytes (first - 1) v ∙ long;
      }

  pub hex_end : first ≤ 4 → drop first bytes ≡ hex n
  unfolding hex_from
  hex_end h =
      let low : 4 ≤ first = d.any in
      let e : first - 4 ≡ 0 = omega arith in
      sym (ap (λ (i : ℕ). hex_from i rest (drop first bytes)) e) ∙ d.left
