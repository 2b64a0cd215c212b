-- Where binary64's sums and products of small constants are exact.
use Prim.Native.Nat.{ℕ, zero, suc, ◌+◌, ◌-◌, ◌*◌, ◌/◌, ◌%◌, ◌^◌, ◌<◌, ◌≤◌, zero-le, max}
use mathlib.Core.Path.{◌≡◌, refl, sym, ap, ◌∙◌, subst, subst₂}
use mathlib.Core.Bool.{Bool, true, false, cond, ◌||◌, ◌&&◌, not, beq, false≢true, true≢false}
use mathlib.Core.Quot.{sound}
use mathlib.Core.Logic.{inl, inr}
use lib.IntN.{ℤ, pos, negsuc}
use native.Mathlib.Omega.{arith}
use native.Mathlib.Nat.{mul_assoc, mul_comm, mul_right_comm, mul-one, one-mul, zero-mul, mul-zero, add-mul, mul-le-mul_right, mul-le-mul_left, mul-le-mul, le_of_mul-le-mul_right, eq_of_mul-eq-mul_right, mul-pos, le_trans, le_refl, le_of_eq, eq-or-lt_of_le, mul-mul-mul_comm, pow-suc, lt_of_lt_of_le, lt_of_not-le}
use borrow.Author.Tests.{ltb-true, ltb-false, eqb-true, eqb-false}
use lib.Dec.{T, eqb, leb, ltb, ltb→lt, lit<}
use native.Mathlib.Decide.{dec_le}
use lib.Pow.{pow-add, pow_pos, pow_mono, pow-lt, shl_lt}
use lib.Ieee.{Float, nan, inf, fin, binary64, up, down, round, sum, add, sub, mul, neg, eq, level, unlike, fits}
use lib.Ieee.Exact.{HasValue, round_exact}
use lib.Ieee.Digits.{back}
use lib.Ieee.Fits.{add-fits, mul-fits, neg-fits, round-fits, and_l, and_r, up_pos}
use Rattle.definitions.specs.Patterns.{finite, zero64, one64}
use Rattle.definitions.specs.Dyadic.{Fraction, fraction, fraction_eq, Same, Dyadic, dyadic, plus, times, opposite, zero_value, one_value}
use Rattle.definitions.specs.Value.{number, fraction_bits, signed}
use Rattle.definitions.specs.Exact.{Bound, bound_by, unit_bound, constant_bound, add_bound, mul_bound, Within}
use Rattle.definitions.proofs.Bounds.{Le, Heavy, heavy_add, heavy_mul}
use Rattle.definitions.proofs.Prune.{T-is}
use Rattle.definitions.proofs.Trees.{FloatLaws}

down_is : (e : ℤ) → down e ≡ 2 ^ fraction_bits e
down_is (pos k) = refl
down_is (negsuc k) = refl

-- ---- 0 and 1
zero_dy : (s : Bool) (a k : ℕ) → a ≡ 0 → dyadic (signed s a k) ≡ zero_value
zero_dy false a k e = sound (omega (arith, e, ap (λ (z : ℕ). z * 2 ^ 0) e, zero-mul (2 ^ k)))
zero_dy true a k e = sound (omega (arith, e, ap (λ (z : ℕ). z * 2 ^ 0) e, zero-mul (2 ^ k)))

pub zero_is : (x : Float) → eq x zero64 ≡ true → number x ≡ zero_value
unfolding eq number
zero_is nan h = absurd (false≢true h)
zero_is (inf s) h = absurd (false≢true h)
zero_is (fin s m e) h =
    let q = eqb-true (m * up e * 1) (0 * down e) (T-is _ (and_l (eqb (m * up e * 1) (0 * down e)) (beq s false || eqb (m * up e * 1) 0) (subst T (sym h) tt))) in
    zero_dy s (m * up e) (fraction_bits e) (omega (arith, q, zero-mul (down e)))

one_dy : (a k : ℕ) → a ≡ 2 ^ k → dyadic (fraction a 0 k) ≡ one_value
one_dy a k e = sound (omega (arith, e, zero-mul (2 ^ k), zero-mul (2 ^ 0), one-mul (2 ^ k)))

pub one_is : (x : Float) → eq x one64 ≡ true → number x ≡ one_value
unfolding eq number
one_is nan h = absurd (false≢true h)
one_is (inf s) h = absurd (false≢true h)
one_is (fin false m e) h =
    let A = m * up e * 1 in
    let B = 1 * down e in
    let q = eqb-true A B (T-is _ (and_l (eqb A B) (beq false false || eqb A 0) (subst T (sym h) tt))) in
    one_dy (m * up e) (fraction_bits e) (omega (arith, q, down_is e))
one_is (fin true m e) h =
    let A = m * up e * 1 in
    let B = 1 * down e in
    let q = eqb-true A B (T-is _ (and_l (eqb A B) (beq true false || eqb A 0) (subst T (sym h) tt))) in
    let z = eqb-true A 0 (T-is _ (and_r (eqb A B) (beq true false || eqb A 0) (subst T (sym h) tt))) in
    absurd (omega (arith, q, z, down_is e, pow_pos (fraction_bits e)))

-- ---- rounding that changes nothing
scaled : (num den Q P j : ℕ) → num * 2 ^ P ≡ Q * den → P + j ≡ 1074 → num * 2 ^ 1074 ≡ Q * 2 ^ j * den
scaled num den Q P j h e =
    ap (λ (k : ℕ). num * 2 ^ k) (sym e) ∙ ap (λ (k : ℕ). num * k) (pow-add 2 P j) ∙ sym (mul_assoc num (2 ^ P) (2 ^ j))
    ∙ ap (λ (k : ℕ). k * 2 ^ j) h ∙ mul_right_comm Q den (2 ^ j)

under_top : (q j : ℕ) → q < 2 ^ 53 → j ≤ 1127 → q * 2 ^ j < 2 ^ (1074 + suc 1023)
under_top q j h k = lt_of_lt_of_le (shl_lt 53 j h) (pow_mono {i = 53 + j} {j = 1074 + suc 1023} (omega arith))

exact_round : (s : Bool) (num den Q P : ℕ) → 0 < den → num * 2 ^ P ≡ Q * den → Q ≤ 2 ^ 53 → P ≤ 1074 → HasValue (round binary64 s num den) s num den
exact_round s num den Q P d h q p =
    let j = 1074 - P in
    let base : num * 2 ^ 1074 ≡ Q * 2 ^ j * den = scaled num den Q P j h (omega arith) in
    elim (eq-or-lt_of_le q) [
      | inl e ↦
          let t : num * 2 ^ 1074 ≡ 1 * 2 ^ (53 + j) * den = base ∙ ap (λ (k : ℕ). k * 2 ^ j * den) e ∙ ap (λ (k : ℕ). k * den) (sym (pow-add 2 53 j) ∙ sym (one-mul (2 ^ (53 + j)))) in
          round_exact binary64 s num den 1 (53 + j) d (lit< tt) (under_top 1 (53 + j) (lit< tt) (omega arith)) t
      | inr l ↦ round_exact binary64 s num den Q j d l (under_top Q j l (omega arith)) base
    ]

-- ---- the number of what has a value
value_dy : (s : Bool) (v w k j : ℕ) → v * 2 ^ j ≡ w * 2 ^ k → dyadic (signed s v k) ≡ dyadic (signed s w j)
value_dy false v w k j h = sound (omega (arith, h, zero-mul (2 ^ k), zero-mul (2 ^ j)))
value_dy true v w k j h = sound (omega (arith, h, zero-mul (2 ^ k), zero-mul (2 ^ j)))

number_of : (x : Float) (s : Bool) (a j : ℕ) → HasValue x s a (2 ^ j) → number x ≡ dyadic (signed s a j)
unfolding number
number_of nan s a j h = absurd h
number_of (inf t) s a j h = absurd h
number_of (fin t m e) s a j h =
    ap (λ (b : Bool). dyadic (signed b (m * up e) (fraction_bits e))) h.0 ∙ value_dy s (m * up e) a (fraction_bits e) j (h.1 ∙ ap (λ (k : ℕ). a * k) (down_is e))

finite_of : (x : Float) (s : Bool) (a c : ℕ) → HasValue x s a c → T (finite x)
finite_of nan s a c h = h
finite_of (inf t) s a c h = h
finite_of (fin t m e) s a c h = tt

-- ---- its bound
-- an odd m over 2 ^ k is no whole number over a smaller power of two
odd_bits : (m k Q P : ℕ) → m % 2 ≡ 1 → m * 2 ^ P ≡ Q * 2 ^ k → k ≤ P
odd_bits m k Q P o h = elim (dec_le k P) [ yes y ↦ y | no n ↦ absurd (bad (lt_of_not-le n)) ]
  where
    bad : P < k → ⊥
    bad l =
        let d = k - suc P in
        let e : 2 ^ k ≡ 2 ^ d * 2 * 2 ^ P = ap (λ (z : ℕ). 2 ^ z) (omega arith) ∙ pow-add 2 (suc d) P ∙ ap (λ (z : ℕ). z * 2 ^ P) (pow-suc 2 d) in
        let f : m * 2 ^ P ≡ Q * (2 ^ d * 2) * 2 ^ P = h ∙ ap (λ (z : ℕ). Q * z) e ∙ sym (mul_assoc Q (2 ^ d * 2) (2 ^ P)) in
        let g : m ≡ Q * (2 ^ d * 2) = eq_of_mul-eq-mul_right (2 ^ P) (pow_pos P) m (Q * (2 ^ d * 2)) f in
        let g' : m ≡ Q * 2 ^ d * 2 = g ∙ sym (mul_assoc Q (2 ^ d) 2) in
        omega arith

first_of : (a b c d : Bool) → T (a && b && c && d) → T a
first_of a b c d t = and_l a b (and_l (a && b) c (and_l (a && b && c) d t))

-- z holds a / 2 ^ j, which is Q / 2 ^ P
bits_of : (z : Float) (s : Bool) (a j Q P : ℕ) → T (fits binary64 z) → HasValue z s a (2 ^ j) → a * 2 ^ P ≡ Q * 2 ^ j → (constant_bound z).bits ≤ P
unfolding fits
bits_of nan s a j Q P f h k = absurd h
bits_of (inf t) s a j Q P f h k = absurd h
bits_of (fin t m (pos e)) s a j Q P f h k = zero-le
bits_of (fin t zero (negsuc e)) s a j Q P f h k =
    let q = eqb-true (1 * 2 ^ suc e) 1 (T-is (eqb (1 * 2 ^ suc e) 1) f) in
    absurd (omega (arith, q, pow-suc 2 e))
bits_of (fin t (suc m) (negsuc e)) s a j Q P f h k =
    let o = eqb-true (suc m % 2) 1 (T-is (eqb (suc m % 2) 1) (first_of (eqb (suc m % 2) 1) (ltb (suc m) (2 ^ 53)) (leb (2 ^ suc e) (2 ^ 1074)) (ltb (suc m * 1) (2 ^ suc 1023 * 2 ^ suc e)) f)) in
    let M = suc m in
    let K = 2 ^ suc e in
    let h1 : M * 2 ^ j ≡ a * K = ap (λ (z : ℕ). z * 2 ^ j) (sym (mul-one M)) ∙ h.1 in
    let c : M * 2 ^ P * 2 ^ j ≡ Q * K * 2 ^ j =
    mul_right_comm M (2 ^ P) (2 ^ j) ∙ ap (λ (z : ℕ). z * 2 ^ P) h1 ∙ mul_right_comm a K (2 ^ P) ∙ ap (λ (z : ℕ). z * K) k ∙ mul_right_comm Q (2 ^ j) K in
    odd_bits M (suc e) Q P o (eq_of_mul-eq-mul_right (2 ^ j) (pow_pos j) (M * 2 ^ P) (Q * K) c)

max_law : (D Y U t K : ℕ) → D * U ≤ t * K → Y * U ≤ t * K → max D Y * U ≤ t * K
max_law D Y U t K x y = elim (dec_le D Y) [
  | yes h ↦ subst (λ (z : ℕ). z * U ≤ t * K) (omega arith) y
  | no h ↦ let g = lt_of_not-le h in subst (λ (z : ℕ). z * U ≤ t * K) (omega arith) x
]

light_of : (z : Float) (s : Bool) (a j : ℕ) (B : Bound) → HasValue z s a (2 ^ j) → Heavy B → a * 2 ^ B.under ≤ B.top * 2 ^ j → (constant_bound z).top * 2 ^ B.under ≤ B.top * 2 ^ (constant_bound z).under
light_of nan s a j B h hv k = absurd h
light_of (inf t) s a j B h hv k = absurd h
light_of (fin t m e) s a j B h hv k =
    let U = 2 ^ B.under in
    let K = 2 ^ fraction_bits e in
    let Y = m * up e in
    let de = down_is e in
    let h1 : Y * 2 ^ j ≡ a * K = h.1 ∙ ap (λ (z : ℕ). a * z) de in
    let one : down e * U ≤ B.top * K = omega (arith, mul-le-mul_right K hv, mul_comm U K, ap (λ (z : ℕ). z * U) de) in
    let pair : Y * U * 2 ^ j ≤ B.top * K * 2 ^ j =
    omega (arith, mul_right_comm Y U (2 ^ j), ap (λ (z : ℕ). z * U) h1, mul_right_comm a K U, mul-le-mul_right K k, mul_right_comm B.top (2 ^ j) K) in
    max_law (down e) Y U B.top K one (le_of_mul-le-mul_right pair (pow_pos j))

-- P is at most 53 where W * 2 ^ P is at most 2 ^ 53
few_bits : (B : Bound) → Heavy B → Within B → B.bits ≤ 53
few_bits B h s = elim (dec_le B.bits 53) [ yes y ↦ y | no n ↦ absurd (bad (lt_of_not-le n)) ]
  where
    bad : 53 < B.bits → ⊥
    bad l =
        let U = 2 ^ B.under in
        let x : 2 ^ B.bits * U ≤ 2 ^ 53 * U = le_trans (le_of_eq (mul_comm (2 ^ B.bits) U)) (le_trans (mul-le-mul_right (2 ^ B.bits) h) s) in
        omega (arith, le_of_mul-le-mul_right x (pow_pos B.under), pow-lt l)

-- ---- a result of a rounding, with its bound
record Fold (z : Float) (B : Bound) (v : Dyadic) : Type 0 where
  isfin : T (finite z)
  smaller : Le (constant_bound z) B
  equal : number z ≡ v

fold_of : (s : Bool) (num j Q : ℕ) (B : Bound) → Heavy B → Within B → num * 2 ^ B.bits ≡ Q * 2 ^ j → Q ≤ 2 ^ 53 → num * 2 ^ B.under ≤ B.top * 2 ^ j
    → Fold (round binary64 s num (2 ^ j)) B (dyadic (signed s num j))
fold_of s num j Q B hv sm e q l =
    let z = round binary64 s num (2 ^ j) in
    let h = exact_round s num (2 ^ j) Q B.bits (pow_pos j) e q (le_trans (few_bits B hv sm) (omega arith)) in
    record {
      isfin = finite_of z s num (2 ^ j) h;
      smaller = record { fewer = bits_of z s num j Q B.bits (round-fits binary64 s num (2 ^ j)) h e; lighter = light_of z s num j B h hv l };
      equal = number_of z s num j h;
    }

-- ---- products
heavy_const : (x : Float) → Heavy (constant_bound x)
heavy_const nan = omega arith
heavy_const (inf b) = omega arith
heavy_const (fin b m e) = omega (arith, down_is e)

times_dy : (s t : Bool) (v w k j : ℕ) → dyadic (signed (unlike s t) (v * w) (k + j)) ≡ times (dyadic (signed s v k)) (dyadic (signed t w j))
unfolding times
times_dy false false v w k j = ap dyadic (fraction_eq (omega arith) (omega (arith, mul-zero v, zero-mul w)) refl)
times_dy false true v w k j = ap dyadic (fraction_eq (omega (arith, mul-zero v, zero-mul w)) (omega arith) refl)
times_dy true false v w k j = ap dyadic (fraction_eq (omega (arith, mul-zero v, zero-mul w)) (omega arith) refl)
times_dy true true v w k j = ap dyadic (fraction_eq (omega arith) (omega (arith, mul-zero v, zero-mul w)) refl)

fold_mul : (s t : Bool) (m n : ℕ) (e d : ℤ) → Within (mul_bound (constant_bound (fin s m e)) (constant_bound (fin t n d)))
    → Fold (mul binary64 (fin s m e) (fin t n d)) (mul_bound (constant_bound (fin s m e)) (constant_bound (fin t n d))) (times (number (fin s m e)) (number (fin t n d)))
unfolding mul number
fold_mul s t m n e d sm =
    let B = mul_bound (constant_bound (fin s m e)) (constant_bound (fin t n d)) in
    let j = fraction_bits e + fraction_bits d in
    let v = m * up e in
    let w = n * up d in
    let hv = heavy_mul (constant_bound (fin s m e)) (constant_bound (fin t n d)) (heavy_const (fin s m e)) (heavy_const (fin t n d)) in
    let le : v * w ≤ B.top = mul-le-mul {n₁ = v} {m₁ = w} {n₂ = max (down e) v} {m₂ = max (down d) w} (omega arith) (omega arith) in
    let de : down e * down d ≡ 2 ^ j = ap (λ (z : ℕ). z * down d) (down_is e) ∙ ap (λ (z : ℕ). 2 ^ fraction_bits e * z) (down_is d) ∙ sym (pow-add 2 (fraction_bits e) (fraction_bits d)) in
    let q : v * w ≤ 2 ^ 53 = le_trans le (le_of_mul-le-mul_right sm (pow_pos j)) in
    let f = fold_of (unlike s t) (v * w) j (v * w) B hv sm refl q (mul-le-mul_right (2 ^ j) le) in
    let g = subst (λ (c : ℕ). Fold (round binary64 (unlike s t) (v * w) c) B (dyadic (signed (unlike s t) (v * w) j))) (sym de) f in
    record { isfin = g.isfin; smaller = g.smaller; equal = g.equal ∙ times_dy s t v w (fraction_bits e) (fraction_bits d) }

-- ---- sums
beq_is : (s t : Bool) → beq s t ≡ true → s ≡ t
beq_is false false e = refl
beq_is false true e = absurd (false≢true e)
beq_is true false e = absurd (false≢true e)
beq_is true true e = refl

diff_dy : (p n p' n' j : ℕ) → p + n' ≡ p' + n → dyadic (fraction p n j) ≡ dyadic (fraction p' n' j)
diff_dy p n p' n' j h = sound (sym (add-mul p n' (2 ^ j)) ∙ ap (λ (z : ℕ). z * 2 ^ j) h ∙ add-mul p' n (2 ^ j))

module _ (v w k i : ℕ) where
  J : ℕ
  J = k + i

  -- the two signs with the magnitudes over the common power
  plus_same : (s : Bool) → dyadic (signed s (v * 2 ^ i + w * 2 ^ k) (k + i)) ≡ plus (dyadic (signed s v k)) (dyadic (signed s w i))
  unfolding plus
  plus_same false = diff_dy _ _ _ _ (k + i) (omega (arith, zero-mul (2 ^ i), zero-mul (2 ^ k)))
  plus_same true = diff_dy _ _ _ _ (k + i) (omega (arith, zero-mul (2 ^ i), zero-mul (2 ^ k)))

  plus_less : (s t : Bool) → beq s t ≡ false → v * 2 ^ i < w * 2 ^ k → dyadic (signed t (w * 2 ^ k - v * 2 ^ i) (k + i)) ≡ plus (dyadic (signed s v k)) (dyadic (signed t w i))
  unfolding plus
  plus_less false false e h = absurd (true≢false e)
  plus_less false true e h = diff_dy _ _ _ _ (k + i) (omega (arith, zero-mul (2 ^ i), zero-mul (2 ^ k)))
  plus_less true false e h = diff_dy _ _ _ _ (k + i) (omega (arith, zero-mul (2 ^ i), zero-mul (2 ^ k)))
  plus_less true true e h = absurd (true≢false e)

  plus_more : (s t b : Bool) → beq s t ≡ false → ltb (w * 2 ^ k) (v * 2 ^ i) ≡ b → w * 2 ^ k ≤ v * 2 ^ i → dyadic (signed (s && b) (v * 2 ^ i - w * 2 ^ k) (k + i)) ≡ plus (dyadic (signed s v k)) (dyadic (signed t w i))
  unfolding plus
  plus_more false false b e f h = absurd (true≢false e)
  plus_more false true b e f h = diff_dy _ _ _ _ (k + i) (omega (arith, zero-mul (2 ^ i), zero-mul (2 ^ k)))
  plus_more true false true e f h = diff_dy _ _ _ _ (k + i) (omega (arith, zero-mul (2 ^ i), zero-mul (2 ^ k)))
  plus_more true false false e f h = diff_dy _ _ _ _ (k + i) (omega (arith, zero-mul (2 ^ i), zero-mul (2 ^ k), ltb-false (w * 2 ^ k) (v * 2 ^ i) f))
  plus_more true true b e f h = absurd (true≢false e)

-- v over 2 ^ k, moved to the common power 2 ^ (k + i), is a whole number over 2 ^ P
lift_law : (v k i P : ℕ) → k ≤ P → v * 2 ^ i * 2 ^ P ≡ v * 2 ^ (P - k) * 2 ^ (k + i)
lift_law v k i P h =
    let e : 2 ^ P ≡ 2 ^ (P - k) * 2 ^ k = ap (λ (z : ℕ). 2 ^ z) (sym (back P k h)) ∙ pow-add 2 (P - k) k in
    ap (λ (z : ℕ). v * 2 ^ i * z) e ∙ mul-mul-mul_comm v (2 ^ i) (2 ^ (P - k)) (2 ^ k) ∙ ap (λ (z : ℕ). v * 2 ^ (P - k) * z) (mul_comm (2 ^ i) (2 ^ k) ∙ sym (pow-add 2 k i))

sub_mul : (a b c : ℕ) → b ≤ a → (a - b) * c ≡ a * c - b * c
sub_mul a b c h = omega (arith, add-mul (a - b) b c, ap (λ (z : ℕ). z * c) (back a b h))

module _ (v w tx ty k i : ℕ) (hx : v ≤ tx) (hy : w ≤ ty) (B : Bound) (is : B ≡ bound_by (max k i) (tx * 2 ^ i + ty * 2 ^ k) (k + i)) (hv : Heavy B) (sm : Within B) where
  part : (s : Bool) (num Q : ℕ) → num ≤ v * 2 ^ i + w * 2 ^ k → num * 2 ^ max k i ≡ Q * 2 ^ (k + i) → Fold (round binary64 s num (2 ^ (k + i))) B (dyadic (signed s num (k + i)))
  part s num Q h e =
      let P = max k i in
      let C = bound_by P (tx * 2 ^ i + ty * 2 ^ k) (k + i) in
      let hv_c : Heavy C = subst Heavy is hv in
      let sm_c : Within C = subst Within is sm in
      let top : num ≤ tx * 2 ^ i + ty * 2 ^ k = omega (arith, h, mul-le-mul_right (2 ^ i) hx, mul-le-mul_right (2 ^ k) hy) in
      let q : Q * 2 ^ (k + i) ≤ 2 ^ 53 * 2 ^ (k + i) = le_trans (le_of_eq (sym e)) (le_trans (mul-le-mul_right (2 ^ P) top) sm_c) in
      subst (λ (b : Bound). Fold (round binary64 s num (2 ^ (k + i))) b (dyadic (signed s num (k + i)))) (sym is)
      (fold_of s num (k + i) Q C hv_c sm_c e (le_of_mul-le-mul_right q (pow_pos (k + i))) (mul-le-mul_right (2 ^ (k + i)) top))

  up_x : v * 2 ^ i * 2 ^ max k i ≡ v * 2 ^ (max k i - k) * 2 ^ (k + i)
  up_x = lift_law v k i (max k i) (omega arith)

  up_y : w * 2 ^ k * 2 ^ max k i ≡ w * 2 ^ (max k i - i) * 2 ^ (k + i)
  up_y = lift_law w i k (max k i) (omega arith) ∙ ap (λ (z : ℕ). w * 2 ^ (max k i - i) * 2 ^ z) (omega arith)

  sum_fold : (s t : Bool) → Fold (sum binary64 s (v * 2 ^ i) t (w * 2 ^ k) (2 ^ (k + i))) B (plus (dyadic (signed s v k)) (dyadic (signed t w i)))
  unfolding sum
  sum_fold s t = one (beq s t) refl
    where
      a : ℕ
      a = v * 2 ^ i

      b : ℕ
      b = w * 2 ^ k

      P : ℕ
      P = max k i

      A : ℕ
      A = v * 2 ^ (max k i - k)

      C : ℕ
      C = w * 2 ^ (max k i - i)

      goal : Dyadic
      goal = plus (dyadic (signed s v k)) (dyadic (signed t w i))

      to : {z : Float} {x y : Dyadic} → Fold z B x → x ≡ y → Fold z B y
      to f e = record { isfin = f.isfin; smaller = f.smaller; equal = f.equal ∙ e }

      cancel : (x y X Y : ℕ) → x ≤ y → x * 2 ^ P ≡ X * 2 ^ (k + i) → y * 2 ^ P ≡ Y * 2 ^ (k + i) → (y - x) * 2 ^ P ≡ (Y - X) * 2 ^ (k + i)
      cancel x y X Y h ex ey =
          let le : X ≤ Y = le_of_mul-le-mul_right (le_trans (le_of_eq (sym ex)) (le_trans (mul-le-mul_right (2 ^ P) h) (le_of_eq ey))) (pow_pos (k + i)) in
          sub_mul y x (2 ^ P) h ∙ omega (arith, ex, ey) ∙ sym (sub_mul Y X (2 ^ (k + i)) le)

      two' : beq s t ≡ false → (c : Bool) → ltb a b ≡ c → Fold (cond c (round binary64 t (b - a) (2 ^ (k + i))) (round binary64 (s && ltb b a) (a - b) (2 ^ (k + i)))) B goal
      two' e true f =
          let h = ltb-true a b f in
          to (part t (b - a) (C - A) (omega arith) (cancel a b A C (omega arith) up_x up_y)) (plus_less v w k i s t e h)
      two' e false f =
          let h = ltb-false a b f in
          to (part (s && ltb b a) (a - b) (A - C) (omega arith) (cancel b a C A h up_y up_x)) (plus_more v w k i s t (ltb b a) e refl h)

      one : (c : Bool) → beq s t ≡ c → Fold (cond c (round binary64 s (a + b) (2 ^ (k + i))) (cond (ltb a b) (round binary64 t (b - a) (2 ^ (k + i))) (round binary64 (s && ltb b a) (a - b) (2 ^ (k + i))))) B goal
      one true e =
          to (part s (a + b) (A + C) (omega arith) (add-mul a b (2 ^ P) ∙ omega (arith, up_x, up_y) ∙ sym (add-mul A C (2 ^ (k + i)))))
          (plus_same v w k i s ∙ ap (λ (c : Bool). plus (dyadic (signed s v k)) (dyadic (signed c w i))) (beq_is s t e))
      one false e = two' e (ltb a b) refl

fold_add : (s t : Bool) (m n : ℕ) (e d : ℤ) → Within (add_bound (constant_bound (fin s m e)) (constant_bound (fin t n d)))
    → Fold (add binary64 (fin s m e) (fin t n d)) (add_bound (constant_bound (fin s m e)) (constant_bound (fin t n d))) (plus (number (fin s m e)) (number (fin t n d)))
unfolding add number
fold_add s t m n e d sm =
    let B = add_bound (constant_bound (fin s m e)) (constant_bound (fin t n d)) in
    let v = m * up e in
    let w = n * up d in
    let k = fraction_bits e in
    let i = fraction_bits d in
    let hv = heavy_add (constant_bound (fin s m e)) (constant_bound (fin t n d)) (heavy_const (fin s m e)) in
    let f = sum_fold v w (max (down e) v) (max (down d) w) k i (omega arith) (omega arith) B refl hv sm s t in
    let g = subst (λ (c : ℕ). Fold (sum binary64 s (v * c) t (w * 2 ^ k) (2 ^ (k + i))) B (plus (dyadic (signed s v k)) (dyadic (signed t w i)))) (sym (down_is d)) f in
    let h = subst (λ (c : ℕ). Fold (sum binary64 s (v * down d) t (w * c) (2 ^ (k + i))) B (plus (dyadic (signed s v k)) (dyadic (signed t w i)))) (sym (down_is e)) g in
    let de : down e * down d ≡ 2 ^ (k + i) = ap (λ (z : ℕ). z * down d) (down_is e) ∙ ap (λ (z : ℕ). 2 ^ k * z) (down_is d) ∙ sym (pow-add 2 k i) in
    subst (λ (c : ℕ). Fold (sum binary64 s (v * down d) t (w * down e) c) B (plus (dyadic (signed s v k)) (dyadic (signed t w i)))) (sym de) h

opp_dy : (t : Bool) (w j : ℕ) → dyadic (signed (not t) w j) ≡ opposite (dyadic (signed t w j))
unfolding opposite
opp_dy false w j = refl
opp_dy true w j = refl

adds : (x y : Float) → T (finite x) → T (finite y) → Within (add_bound (constant_bound x) (constant_bound y)) → Fold (add binary64 x y) (add_bound (constant_bound x) (constant_bound y)) (plus (number x) (number y))
adds nan y fx fy s = absurd fx
adds (inf b) y fx fy s = absurd fx
adds (fin b m e) nan fx fy s = absurd fy
adds (fin b m e) (inf c) fx fy s = absurd fy
adds (fin b m e) (fin c n d) fx fy s = fold_add b c m n e d s

subs : (x y : Float) → T (finite x) → T (finite y) → Within (add_bound (constant_bound x) (constant_bound y)) → Fold (sub binary64 x y) (add_bound (constant_bound x) (constant_bound y)) (plus (number x) (opposite (number y)))
unfolding sub neg number
subs x nan fx fy s = absurd fy
subs x (inf c) fx fy s = absurd fy
subs x (fin c n d) fx fy s =
    let f = adds x (fin (not c) n d) fx tt s in
    record { isfin = f.isfin; smaller = f.smaller; equal = f.equal ∙ ap (plus (number x)) (opp_dy c (n * up d) (fraction_bits d)) }

muls : (x y : Float) → T (finite x) → T (finite y) → Within (mul_bound (constant_bound x) (constant_bound y)) → Fold (mul binary64 x y) (mul_bound (constant_bound x) (constant_bound y)) (times (number x) (number y))
muls nan y fx fy s = absurd fx
muls (inf b) y fx fy s = absurd fx
muls (fin b m e) nan fx fy s = absurd fy
muls (fin b m e) (inf c) fx fy s = absurd fy
muls (fin b m e) (fin c n d) fx fy s = fold_mul b c m n e d s

pub laws : FloatLaws
laws = record {
  zero_is = zero_is;
  one_is = one_is;
  add_le = λ x y hx hy fx fy s. let f = adds x y fx fy s in (f.isfin, f.smaller);
  add_is = λ x y hx hy fx fy s. (adds x y fx fy s).equal;
  sub_le = λ x y hx hy fx fy s. let f = subs x y fx fy s in (f.isfin, f.smaller);
  sub_is = λ x y hx hy fx fy s. (subs x y fx fy s).equal;
  mul_le = λ x y hx hy fx fy s. let f = muls x y fx fy s in (f.isfin, f.smaller);
  mul_is = λ x y hx hy fx fy s. (muls x y fx fy s).equal;
}
