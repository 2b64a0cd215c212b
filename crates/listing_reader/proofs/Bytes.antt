-- The byte at a place of a list.
use Prim.Native.Nat.{ℕ, ◌+◌, ◌≤◌, ◌<◌}
use mathlib.Core.Path.{◌≡◌, refl, sym, ap, ◌∙◌}
use mathlib.Core.Bool.{true, false}
use mathlib.Core.List.{List, ◌∷◌}
use lib.ListN.{length, get_or, drop, get_or-eq_default}
use lib.Seq.{drop-cons, get_or-drop}
use lib.Dec.{leb}
use native.Mathlib.Omega.{arith}
use native.Mathlib.Numerals.{add-one}
use native.Mathlib.Decide.{dec_lt}
use borrow.Author.Tests.{leb-true, le-leb, lt-leb}
use Rattle.definitions.proofs.Deciding.{both}
use Rattle.listing_reader.specs.Numbers.{is_digit}

-- only a place of the list has a byte that is not 0
pub here : (l : List ℕ) (i : ℕ) → 0 < get_or l i 0 → i < length l
here l i h = go (dec_lt i (length l))
  where
    go : Dec (i < length l) → i < length l
    go (yes k) = k
    go (no k) = let m : length l ≤ i = omega arith in let z : get_or l i 0 ≡ 0 = get_or-eq_default l 0 m in absurd (omega arith)

pub byte_here : (l : List ℕ) (i b : ℕ) → 0 < b → get_or l i 0 ≡ b → i < length l
byte_here l i b h e = here l i (omega arith)

pub byte_then : (l : List ℕ) (i b : ℕ) → 0 < b → get_or l i 0 ≡ b → drop i l ≡ b ∷ drop (i + 1) l
byte_then l i b h e =
    let k : i < length l = here l i (omega arith) in
    drop-cons l i 0 k ∙ rw (e, add-one) refl

pub first_byte : (l : List ℕ) (i b : ℕ) (r : List ℕ) → drop i l ≡ b ∷ r → get_or l i 0 ≡ b
first_byte l i b r e =
    let z : i + 0 ≡ i = omega arith in
    sym (ap (λ (j : ℕ). get_or l j 0) z) ∙ sym (get_or-drop i l 0 0) ∙ ap (λ (x : List ℕ). get_or x 0 0) e

pub at_start : (l : List ℕ) (i : ℕ) → get_or (drop i l) 0 0 ≡ get_or l i 0
at_start l i = let z : i + 0 ≡ i = omega arith in get_or-drop i l 0 0 ∙ ap (λ (j : ℕ). get_or l j 0) z

pub digit_range : (c : ℕ) → is_digit c ≡ true → (48 ≤ c) × (c ≤ 57)
digit_range c h = let p = both (leb 48 c) (leb c 57) h in (leb-true 48 c p.0, leb-true c 57 p.1)

pub range_digit : (c : ℕ) → 48 ≤ c → c ≤ 57 → is_digit c ≡ true
range_digit c a b = rw (le-leb 48 c a, le-leb c 57 b) refl

pub below_digits : (c : ℕ) → c < 48 → false ≡ is_digit c
below_digits c h = rw (lt-leb 48 c h) refl

pub up_to_nine : (c : ℕ) → 48 ≤ c → leb c 57 ≡ is_digit c
up_to_nine c h = rw (le-leb 48 c h) refl
