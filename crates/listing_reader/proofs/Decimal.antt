-- Decimal digits, read from the first one on.
use Prim.Native.Nat.{ℕ, zero, suc, ◌+◌, ◌*◌, ◌-◌, ◌/◌, ◌%◌, ◌^◌, ◌≤◌, ◌<◌}
use mathlib.Core.Path.{◌≡◌, refl, sym, ap, ap₂, ◌∙◌}
use mathlib.Core.Bool.{Bool, true, false}
use mathlib.Core.List.{List, [], ◌∷◌, ◌++◌}
use lib.ListN.{get_or}
use lib.Dec.{lit<}
use native.Mathlib.Omega.{arith}
use native.Mathlib.Nat.{pow-suc}
use native.Mathlib.Decide.{dec_lt}
use Rattle.definitions.specs.Listing.{decimal, decimal_from}
use Rattle.listing_lines.proofs.Spelling.{decimal_last, decimal_step}
use Rattle.listing_reader.specs.Numbers.{word_end, is_digit, EndsDigits}
use Rattle.listing_reader.proofs.Bytes.{range_digit}
use Rattle.listing_reader.proofs.Found.{Unique}

-- ---- the definition, digit by digit
append_from : (f n : ℕ) (r s : List ℕ) → decimal_from f n r ++ s ≡ decimal_from f n (r ++ s)
unfolding decimal_from
append_from zero n r s = refl
append_from (suc f) n r s = go (append_from f) (dec_lt n 10)
  where
    go : ((m : ℕ) (r s : List ℕ) → decimal_from f m r ++ s ≡ decimal_from f m (r ++ s)) → Dec (n < 10) → decimal_from (suc f) n r ++ s ≡ decimal_from (suc f) n (r ++ s)
    go rec (yes l) = ap (λ (x : List ℕ). x ++ s) (decimal_last f n r l) ∙ sym (decimal_last f n (r ++ s) l)
    go rec (no l) = ap (λ (x : List ℕ). x ++ s) (decimal_step f n r (omega arith)) ∙ rec (n / 10) ((48 + n % 10) ∷ r) s ∙ sym (decimal_step f n (r ++ s) (omega arith))

decimal_append : (n : ℕ) (r : List ℕ) → decimal n ++ r ≡ decimal_from 20 n r
unfolding decimal
decimal_append n r = append_from 20 n [] r

-- more places than a number needs change nothing
one_more : (f n : ℕ) (r : List ℕ) → n < 10 ^ suc f → decimal_from (suc (suc f)) n r ≡ decimal_from (suc f) n r
one_more zero n r h = let l : n < 10 = h in decimal_last 1 n r l ∙ sym (decimal_last 0 n r l)
one_more (suc f) n r h = go (one_more f) (dec_lt n 10)
  where
    go : ((m : ℕ) (r : List ℕ) → m < 10 ^ suc f → decimal_from (suc (suc f)) m r ≡ decimal_from (suc f) m r) → Dec (n < 10) → decimal_from (suc (suc (suc f))) n r ≡ decimal_from (suc (suc f)) n r
    go rec (yes l) = decimal_last (suc (suc f)) n r l ∙ sym (decimal_last (suc f) n r l)
    go rec (no l) =
        let p : 10 ^ suc (suc f) ≡ 10 ^ suc f * 10 = pow-suc 10 (suc f) in
        let s : n / 10 < 10 ^ suc f = omega (arith, p) in
        decimal_step (suc (suc f)) n r (omega arith) ∙ rec (n / 10) ((48 + n % 10) ∷ r) s ∙ sym (decimal_step (suc f) n r (omega arith))

-- ---- a number with one digit, and with one digit more
pub decimal_one : (d : ℕ) (r : List ℕ) → d < 10 → (48 + d) ∷ r ≡ decimal d ++ r
decimal_one d r h = sym (decimal_append d r ∙ decimal_last 19 d r h)

pub decimal_more : (v d : ℕ) (r : List ℕ) → 1 ≤ v → d < 10 → v * 10 + d < word_end → decimal v ++ (48 + d) ∷ r ≡ decimal (v * 10 + d) ++ r
decimal_more v d r a b c =
    let q : (v * 10 + d) / 10 ≡ v = omega arith in
    let m : (v * 10 + d) % 10 ≡ d = omega arith in
    let s : v < 10 ^ 19 = omega arith in
    decimal_append v ((48 + d) ∷ r)
    ∙ one_more 18 v ((48 + d) ∷ r) s
    ∙ sym (ap₂ (λ (x y : ℕ). decimal_from 19 x ((48 + y) ∷ r)) q m)
    ∙ sym (decimal_step 19 (v * 10 + d) r (omega arith))
    ∙ sym (decimal_append (v * 10 + d) r)

-- ---- the first digit
first_from : (f n : ℕ) (r : List ℕ) → 1 ≤ n → n < 10 ^ f → (49 ≤ get_or (decimal_from f n r) 0 0) × (get_or (decimal_from f n r) 0 0 ≤ 57)
first_from zero n r a b = absurd (let s : n < 1 = b in omega arith)
first_from (suc f) n r a b = go (first_from f) (dec_lt n 10)
  where
    go : ((m : ℕ) (r : List ℕ) → 1 ≤ m → m < 10 ^ f → (49 ≤ get_or (decimal_from f m r) 0 0) × (get_or (decimal_from f m r) 0 0 ≤ 57)) → Dec (n < 10) → (49 ≤ get_or (decimal_from (suc f) n r) 0 0) × (get_or (decimal_from (suc f) n r) 0 0 ≤ 57)
    go rec (yes l) = rw (decimal_last f n r l) (omega arith, omega arith)
    go rec (no l) =
        let p : 10 ^ suc f ≡ 10 ^ f * 10 = pow-suc 10 f in
        let s : n / 10 < 10 ^ f = omega (arith, p) in
        rw (decimal_step f n r (omega arith)) (rec (n / 10) ((48 + n % 10) ∷ r) (omega arith) s)

pub first_digit : (n : ℕ) (r : List ℕ) → 1 ≤ n → n < word_end → (49 ≤ get_or (decimal n ++ r) 0 0) × (get_or (decimal n ++ r) 0 0 ≤ 57)
first_digit n r a b = rw (decimal_append n r) (first_from 20 n r a (omega arith))

pub starts_with_digit : (n : ℕ) (r : List ℕ) → n < word_end → is_digit (get_or (decimal n ++ r) 0 0) ≡ true
starts_with_digit n r h = go (dec_lt 0 n)
  where
    go : Dec (0 < n) → is_digit (get_or (decimal n ++ r) 0 0) ≡ true
    go (yes l) = let p = first_digit n r (omega arith) h in range_digit _ (let q = p.0 in omega arith) p.1
    go (no l) = let z : 0 ≡ n = omega arith in let e : 48 ∷ r ≡ decimal n ++ r = decimal_one 0 r (lit< tt) ∙ ap (λ (m : ℕ). decimal m ++ r) z in ap (λ (x : List ℕ). is_digit (get_or x 0 0)) (sym e)

-- ---- a number, gone on with the digits of a text, and what follows them
unfoldable goes_on : List ℕ → ℕ → ℕ × List ℕ
goes_on [] a = (a, [])
goes_on (c ∷ cs) a = elim (is_digit c) [ true ↦ goes_on cs (a * 10 + (c - 48)) | false ↦ (a, c ∷ cs) ]

on_digit : (d a : ℕ) (r : List ℕ) → d < 10 → goes_on ((48 + d) ∷ r) a ≡ goes_on r (a * 10 + d)
unfolding goes_on
on_digit d a r h =
    let e : 48 + d - 48 ≡ d = omega arith in
    ap (λ (b : Bool). elim b [ true ↦ goes_on r (a * 10 + (48 + d - 48)) | false ↦ (a, (48 + d) ∷ r) ]) (range_digit (48 + d) (omega arith) (omega arith))
    ∙ ap (λ (x : ℕ). goes_on r (a * 10 + x)) e

on_end : (r : List ℕ) (a : ℕ) → EndsDigits r → goes_on r a ≡ (a, r)
unfolding goes_on
on_end [] a h = refl
on_end (c ∷ cs) a h = ap (λ (b : Bool). elim b [ true ↦ goes_on cs (a * 10 + (c - 48)) | false ↦ (a, c ∷ cs) ]) h.ends

at_least : (r : List ℕ) (a : ℕ) → a ≤ (goes_on r a).0
unfolding goes_on
at_least [] a = omega arith
at_least (c ∷ cs) a = go (is_digit c) (at_least cs (a * 10 + (c - 48))) (goes_on (c ∷ cs) a) refl
  where
    go : (b : Bool) → a * 10 + (c - 48) ≤ (goes_on cs (a * 10 + (c - 48))).0 → (p : ℕ × List ℕ) → p ≡ elim b [ true ↦ goes_on cs (a * 10 + (c - 48)) | false ↦ (a, c ∷ cs) ] → a ≤ p.0
    go true h p e = let z : p.0 ≡ (goes_on cs (a * 10 + (c - 48))).0 = ap (λ (x : ℕ × List ℕ). x.0) e in omega arith
    go false h p e = let z : p.0 ≡ a = ap (λ (x : ℕ × List ℕ). x.0) e in omega arith

goes_from : (f n : ℕ) (r : List ℕ) → n < 10 ^ f → goes_on (decimal_from f n r) 0 ≡ goes_on r n
unfolding decimal_from
goes_from zero n r h = let z : 0 ≡ n = (let s : n < 1 = h in omega arith) in ap (goes_on r) z
goes_from (suc f) n r h = go (goes_from f) (dec_lt n 10)
  where
    go : ((m : ℕ) (r : List ℕ) → m < 10 ^ f → goes_on (decimal_from f m r) 0 ≡ goes_on r m) → Dec (n < 10) → goes_on (decimal_from (suc f) n r) 0 ≡ goes_on r n
    go rec (yes l) =
        let z : 0 * 10 + n ≡ n = omega arith in
        ap (λ (x : List ℕ). goes_on x 0) (decimal_last f n r l) ∙ on_digit n 0 r l ∙ ap (goes_on r) z
    go rec (no l) =
        let p : 10 ^ suc f ≡ 10 ^ f * 10 = pow-suc 10 f in
        let s : n / 10 < 10 ^ f = omega (arith, p) in
        let z : n / 10 * 10 + n % 10 ≡ n = omega arith in
        ap (λ (x : List ℕ). goes_on x 0) (decimal_step f n r (omega arith)) ∙ rec (n / 10) ((48 + n % 10) ∷ r) s ∙ on_digit (n % 10) (n / 10) r (omega arith) ∙ ap (goes_on r) z

decimal_goes : (n : ℕ) (r : List ℕ) → n < word_end → goes_on (decimal n ++ r) 0 ≡ goes_on r n
decimal_goes n r h = ap (λ (x : List ℕ). goes_on x 0) (decimal_append n r) ∙ goes_from 20 n r (omega arith)

decimal_ends : (n : ℕ) (r : List ℕ) → n < word_end → EndsDigits r → goes_on (decimal n ++ r) 0 ≡ (n, r)
decimal_ends n r h e = decimal_goes n r h ∙ on_end r n e

-- digits tell their number, and where it ends
pub decimal_unique : Unique (λ n r. decimal n ++ r) EndsDigits
decimal_unique = record {
  same = λ n m r s a b c d e.
      let p : ◌≡◌ {A = ℕ × List ℕ} (n, r) (m, s) = sym (decimal_ends n r a c) ∙ ap (λ (x : List ℕ). goes_on x 0) e ∙ decimal_ends m s b d in
      (ap (λ (x : ℕ × List ℕ). x.0) p, ap (λ (x : ℕ × List ℕ). x.1) p);
}

-- digits of a number that is too large are the first of no number that is not
pub too_large : (v d : ℕ) (r : List ℕ) → v < word_end → d < 10 → word_end ≤ v * 10 + d → (n : ℕ) (rest : List ℕ) → n < word_end → EndsDigits rest → decimal v ++ (48 + d) ∷ r ≡ decimal n ++ rest → ⊥
too_large v d r a b c n rest h e p =
    let q : goes_on r (v * 10 + d) ≡ (n, rest) = sym (decimal_goes v ((48 + d) ∷ r) a ∙ on_digit d v r b) ∙ ap (λ (x : List ℕ). goes_on x 0) p ∙ decimal_ends n rest h e in
    let z : (goes_on r (v * 10 + d)).0 ≡ n = ap (λ (x : ℕ × List ℕ). x.0) q in
    let l = at_least r (v * 10 + d) in
    omega arith
