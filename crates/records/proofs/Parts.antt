-- Parts of a sheet's bytes, and the numbers that they are.
use Prim.Native.Nat.{ℕ, zero, suc, ◌+◌, ◌*◌, ◌^◌, ◌-◌, ◌≤◌, ◌<◌}
use mathlib.Core.Path.{◌≡◌, refl, sym, ap, ◌∙◌, subst}
use mathlib.Core.List.{List, [], ◌∷◌, ◌++◌}
use lib.ListN.{length, get_or, take, drop, length-take, length-drop}
use lib.Seq.{take-suc, drop-cons, get_or-take, get_or-drop, take-take, take-nil, drop-nil, drop-drop}
use native.Mathlib.Omega.{arith}
use native.Mathlib.Numerals.{add-one}
use native.Mathlib.Nat.{pow-suc, pow-le-pow_right}
use lib.Dec.{lit<}
use Rattle.std.specs.List.{between}
use Rattle.std.proofs.lemmas.List.Edits.{length-between, get_or-between}
use Rattle.definitions.specs.Sheet.{big_endian, big_endian_from}
use Rattle.records.specs.Reading.{part, Number}

module _ (s : List ℕ) (at : ℕ) where
  pub part_length : (n : ℕ) → at + n ≤ length s → length (part s at n) ≡ n
  part_length n h = simp (length-take, length-drop) (omega arith)

  pub part_cons : (n : ℕ) → at + suc n ≤ length s → part s at (suc n) ≡ get_or s at 0 ∷ part s (at + 1) n
  part_cons n h = ap (take (suc n)) (drop-cons s at 0 (omega arith)) ∙ ap (λ (i : ℕ). get_or s at 0 ∷ take n (drop i s)) (sym (add-one at))

  pub part_snoc : (n : ℕ) → at + suc n ≤ length s → part s at (suc n) ≡ part s at n ++ (get_or s (at + n) 0 ∷ [])
  part_snoc n h =
      take-suc (drop at s) n 0 (subst (λ (k : ℕ). n < k) (sym (length-drop at s)) (omega arith))
      ∙ ap (λ (b : ℕ). part s at n ++ (b ∷ [])) (get_or-drop at s n 0)

  pub part_take : (m n : ℕ) → m ≤ n → take m (part s at n) ≡ part s at m
  part_take m n h = take-take m n (drop at s) h

  pub part_get_d : (n i : ℕ) → i < n → get_or (part s at n) i 0 ≡ get_or s (at + i) 0
  part_get_d n i h = get_or-take n (drop at s) i 0 h ∙ get_or-drop at s i 0

drop_take : (m n : ℕ) (l : List ℕ) → drop m (take (m + n) l) ≡ take n (drop m l)
drop_take zero n l = let e : 0 + n ≡ n = omega arith in ap (λ (k : ℕ). take k l) e
drop_take (suc m) n [] = simp (take-nil, drop-nil)
drop_take (suc m) n (b ∷ l) = let e : suc m + n ≡ suc (m + n) = omega arith in ap (λ (k : ℕ). drop (suc m) (take k (b ∷ l))) e ∙ drop_take m n l

pub part_drop : (s : List ℕ) (at m n : ℕ) → drop m (part s at (m + n)) ≡ part s (at + m) n
part_drop s at m n = drop_take m n (drop at s) ∙ ap (take n) (drop-drop m at s)

-- ---- numbers

big_endian_snoc : (n : ℕ) (l : List ℕ) (b : ℕ) → big_endian_from n (l ++ (b ∷ [])) ≡ big_endian_from n l * 256 + b
big_endian_snoc n [] b = refl
big_endian_snoc n (a ∷ l) b = big_endian_snoc (n * 256 + a) l b

pub number_none : (s : List ℕ) (at : ℕ) → Number s at 0 0
number_none s at = record { is = refl; small = lit< tt }

pub number_more : (s : List ℕ) (at i value : ℕ) → Number s at i value → get_or s (at + i) 0 < 256 → at + (i + 1) ≤ length s → Number s at (i + 1) (value * 256 + get_or s (at + i) 0)
number_more s at i value h b l =
    let fits : at + suc i ≤ length s = omega arith in
    let small : value < 256 ^ i = h.small in
    let e : 256 ^ (i + 1) ≡ 256 ^ i * 256 = ap (λ (k : ℕ). 256 ^ k) (add-one i) ∙ pow-suc 256 i in
    record {
      is =
          ap (λ (v : ℕ). v * 256 + get_or s (at + i) 0) h.is
          ∙ sym (ap (λ (k : ℕ). big_endian (part s at k)) (add-one i) ∙ ap big_endian (part_snoc s at i fits) ∙ big_endian_snoc 0 (part s at i) (get_or s (at + i) 0));
      small = omega (arith, e);
    }

-- a byte of a part
module _ (s : List ℕ) (at width i : ℕ) (fits : at + width ≤ length s) (l : i < length (between at (at + width) s)) where
  pub inside : i < width
  inside = let n : length (between at (at + width) s) ≡ at + width - at = length-between s at (at + width) fits in omega arith

  pub byte_of : get_or (between at (at + width) s) i 0 ≡ get_or s (at + i) 0
  byte_of = get_or-between s at (at + width) i 0 (let m : i < width = inside in omega arith)

-- a number of fewer than eight bytes leaves room for one more
pub number_room : (s : List ℕ) (at i value : ℕ) → Number s at i value → i < 8 → value * 256 + 255 < 18446744073709551616
number_room s at i value h l =
    let small : value < 256 ^ i = h.small in
    let e : 256 ^ suc i ≡ 256 ^ i * 256 = pow-suc 256 i in
    let m : 256 ^ suc i ≤ 256 ^ 8 = pow-le-pow_right (lit< tt) l in
    omega (arith, e)
