-- What binary64 does with -0.0, +0.0 and 1.0 as an operand: x + (-0.0), (-0.0) + x, x - (+0.0), x · 1, 1 · x, x / 1 and --x are x.
use Prim.Native.Nat.{ℕ, zero, suc, ◌+◌, ◌-◌, ◌*◌, ◌/◌, ◌%◌, ◌^◌, ◌<◌, ◌≤◌, zero-le}
use mathlib.Core.Path.{◌≡◌, refl, sym, ap, ◌∙◌, subst}
use mathlib.Core.Bool.{Bool, true, false, cond, ◌||◌, ◌&&◌, not, beq, false≢true, true≢false}
use lib.IntN.{ℤ, pos, negsuc}
use native.Mathlib.Omega.{arith}
use native.Mathlib.Nat.{mul_assoc, mul_comm, mul_left_comm, mul_right_comm, mul-one, one-mul, zero-mul, mul-zero, mul-pos, mul-lt-mul_of_pos_right, lt_of_mul-lt-mul_right, lt_of_lt_of_le, eq_of_mul-eq-mul_right, pow-suc, pow-succ', zero-lt-suc, lt_irrefl, add-zero, zero-add}
use borrow.Author.Tests.{ltb-true, ltb-false}
use lib.Dec.{T, eqb, leb, ltb, eqb→eq, ltb→lt, leb→le}
use lib.Pow.{pow-add, pow_pos, pow-lt}
use lib.Ieee.{Float, nan, inf, fin, binary64, prec, emax, low, up, down, round, sum, add, sub, mul, div, neg, unlike, fits}
use lib.Ieee.Exact.{HasValue, round_exact}
use lib.Ieee.Fits.{and_l, and_r, up_pos, down_pos, round-fits}

-- ---- one number, one value
even_odd : (m t : ℕ) → m % 2 ≡ 1 → m ≡ 2 * t → ⊥
even_odd m t o h = omega arith

odd_pow : (m n a b : ℕ) → m % 2 ≡ 1 → n % 2 ≡ 1 → m * 2 ^ a ≡ n * 2 ^ b → (m ≡ n) × (a ≡ b)
odd_pow m n zero zero o p h = (sym (mul-one m) ∙ h ∙ mul-one n, refl)
odd_pow m n zero (suc b) o p h = absurd (even_odd m (n * 2 ^ b) o (sym (mul-one m) ∙ h ∙ ap (λ (x : ℕ). n * x) (pow-succ' 2 b) ∙ mul_left_comm n 2 (2 ^ b)))
odd_pow m n (suc a) zero o p h = absurd (even_odd n (m * 2 ^ a) p (sym (mul-one n) ∙ sym h ∙ ap (λ (x : ℕ). m * x) (pow-succ' 2 a) ∙ mul_left_comm m 2 (2 ^ a)))
odd_pow m n (suc a) (suc b) o p h =
    let r = odd_pow m n a b o p (eq_of_mul-eq-mul_right 2 (zero-lt-suc 1) (m * 2 ^ a) (n * 2 ^ b)
    (mul_assoc m (2 ^ a) 2 ∙ ap (λ (x : ℕ). m * x) (sym (pow-suc 2 a)) ∙ h ∙ ap (λ (x : ℕ). n * x) (pow-suc 2 b) ∙ sym (mul_assoc n (2 ^ b) 2))) in
    (r.0, ap suc r.1)

record Held (m : ℕ) (e : ℤ) : Type 0 where
  isodd : suc m % 2 ≡ 1
  short : suc m < 2 ^ 53
  fine : down e ≤ 2 ^ 1074
  small : suc m * up e < 2 ^ 1024 * down e

held : (s : Bool) (m : ℕ) (e : ℤ) → T (fits binary64 (fin s (suc m) e)) → Held m e
unfolding fits
held s m e t =
    let A = eqb (suc m % 2) 1 in
    let B = ltb (suc m) (2 ^ 53) in
    let C = leb (down e) (2 ^ 1074) in
    let D = ltb (suc m * up e) (2 ^ 1024 * down e) in
    let abc = and_l (A && B && C) D t in
    let ab = and_l (A && B) C abc in
    record {
      isodd = eqb→eq (suc m % 2) 1 (and_l A B ab);
      short = ltb→lt (suc m) (2 ^ 53) (and_r A B ab);
      fine = leb→le (down e) (2 ^ 1074) (and_r (A && B) C abc);
      small = ltb→lt (suc m * up e) (2 ^ 1024 * down e) (and_r (A && B && C) D t);
    }

two_up : (p : ℕ) → 0 < p → 2 * p ≡ 1 → ⊥
two_up p h e = omega arith

flat : (e : ℤ) → up e * down e ≡ 1 → e ≡ pos 0
flat (pos zero) h = refl
flat (pos (suc k)) h = absurd (two_up (2 ^ k) (pow_pos k) (sym (pow-succ' 2 k) ∙ sym (mul-one (2 ^ suc k)) ∙ h))
flat (negsuc k) h = absurd (two_up (2 ^ k) (pow_pos k) (sym (pow-succ' 2 k) ∙ sym (one-mul (2 ^ suc k)) ∙ h))

zero_exp : (s : Bool) (e : ℤ) → T (fits binary64 (fin s zero e)) → e ≡ pos 0
unfolding fits
zero_exp s e t = flat e (eqb→eq (up e * down e) 1 t)

-- both are a / c
cross : (x de y dg a c : ℕ) → 0 < c → x * c ≡ a * de → y * c ≡ a * dg → x * dg ≡ y * de
cross x de y dg a c p h k = eq_of_mul-eq-mul_right c p (x * dg) (y * de)
    (mul_right_comm x dg c ∙ ap (λ (z : ℕ). z * dg) h ∙ mul_right_comm a de dg ∙ ap (λ (z : ℕ). z * de) (sym k) ∙ mul_right_comm y c de)

exps : (m n : ℕ) (e g : ℤ) → m % 2 ≡ 1 → n % 2 ≡ 1 → m * up e * down g ≡ n * up g * down e → (m ≡ n) × (e ≡ g)
exps m n (pos a) (pos b) o p h = let r = odd_pow m n a b o p (sym (mul-one (m * 2 ^ a)) ∙ h ∙ mul-one (n * 2 ^ b)) in (r.0, ap pos r.1)
exps m n (pos a) (negsuc b) o p h =
    let r = odd_pow m n (a + suc b) 0 o p (ap (λ (z : ℕ). m * z) (pow-add 2 a (suc b)) ∙ sym (mul_assoc m (2 ^ a) (2 ^ suc b)) ∙ h ∙ mul-one (n * 1)) in
    absurd (omega (arith, r.1))
exps m n (negsuc a) (pos b) o p h =
    let r = odd_pow n m (b + suc a) 0 p o (ap (λ (z : ℕ). n * z) (pow-add 2 b (suc a)) ∙ sym (mul_assoc n (2 ^ b) (2 ^ suc a)) ∙ sym h ∙ mul-one (m * 1)) in
    absurd (omega (arith, r.1))
exps m n (negsuc a) (negsuc b) o p h =
    let r = odd_pow m n (suc b) (suc a) o p (ap (λ (z : ℕ). z * 2 ^ suc b) (sym (mul-one m)) ∙ h ∙ ap (λ (z : ℕ). z * 2 ^ suc a) (mul-one n)) in
    (r.0, ap negsuc (omega (arith, r.1)))

not_zero : (n u c a d : ℕ) → 0 < u → 0 < c → a ≡ 0 → suc n * u * c ≡ a * d → ⊥
not_zero n u c a d pu pc ea h = lt_irrefl 0 (subst (λ (x : ℕ). 0 < x) (h ∙ ap (λ (x : ℕ). x * d) ea ∙ zero-mul d) (mul-pos (mul-pos (zero-lt-suc n) pu) pc))

num_zero : (e : ℤ) (c a : ℕ) → zero * up e * c ≡ a * down e → a ≡ 0
num_zero e c zero h = refl
num_zero e c (suc a) h = absurd (lt_irrefl 0 (subst (λ (x : ℕ). 0 < x) (sym h ∙ ap (λ (y : ℕ). y * c) (zero-mul (up e)) ∙ zero-mul c) (mul-pos (zero-lt-suc a) (down_pos e))))

pub unique : (x y : Float) (s : Bool) (a c : ℕ) → 0 < c → T (fits binary64 x) → T (fits binary64 y) → HasValue x s a c → HasValue y s a c → x ≡ y
unique nan y s a c pc p q v w = absurd v
unique (inf t) y s a c pc p q v w = absurd v
unique (fin t m e) nan s a c pc p q v w = absurd w
unique (fin t m e) (inf u) s a c pc p q v w = absurd w
unique (fin t zero e) (fin u zero g) s a c pc p q v w = λ i. fin ((v.0 ∙ sym w.0) i) zero ((zero_exp t e p ∙ sym (zero_exp u g q)) i)
unique (fin t zero e) (fin u (suc n) g) s a c pc p q v w = absurd (not_zero n (up g) c a (down g) (up_pos g) pc (num_zero e c a v.1) w.1)
unique (fin t (suc m) e) (fin u zero g) s a c pc p q v w = absurd (not_zero m (up e) c a (down e) (up_pos e) pc (num_zero g c a w.1) v.1)
unique (fin t (suc m) e) (fin u (suc n) g) s a c pc p q v w =
    let r = exps (suc m) (suc n) e g (held t m e p).isodd (held u n g q).isodd (cross (suc m * up e) (down e) (suc n * up g) (down g) a c pc v.1 w.1) in
    λ i. fin ((v.0 ∙ sym w.0) i) (r.0 i) (r.1 i)

-- ---- rounding what is a value already
pow_le_back : (a b : ℕ) → 2 ^ a ≤ 2 ^ b → a ≤ b
pow_le_back a b h = go (ltb b a) refl
  where
    go : (c : Bool) → ltb b a ≡ c → a ≤ b
    go true e = let l : 2 ^ b < 2 ^ a = pow-lt (ltb-true b a e) in absurd (lt_irrefl (2 ^ b) (lt_of_lt_of_le l h))
    go false e = ltb-false b a e

-- 2 ^ j is up e * 2 ^ 1074 / down e
record Power (e : ℤ) : Type 0 where
  j : ℕ
  is : up e * 2 ^ 1074 ≡ 2 ^ j * down e

power : (e : ℤ) → down e ≤ 2 ^ 1074 → Power e
power (pos k) h = record { j = k + 1074; is = sym (pow-add 2 k 1074) ∙ sym (mul-one (2 ^ (k + 1074))) }
power (negsuc k) h =
    let hk : suc k ≤ 1074 = pow_le_back (suc k) 1074 h in
    record { j = 1074 - suc k; is = one-mul (2 ^ 1074) ∙ ap (λ (z : ℕ). 2 ^ z) (let y : 1074 ≡ 1074 - suc k + suc k = omega arith in y) ∙ pow-add 2 (1074 - suc k) (suc k) }

exact_value : (s : Bool) (m : ℕ) (e : ℤ) (a c : ℕ) → 0 < c → T (fits binary64 (fin s m e)) → m * up e * c ≡ a * down e → HasValue (round binary64 s a c) s a c
exact_value s zero e a c pc t h =
    let z : a ≡ 0 = num_zero e c a h in
    round_exact binary64 s a c 0 0 pc (pow_pos 53) (pow_pos 2098) (ap (λ (x : ℕ). x * 2 ^ 1074) z ∙ zero-mul (2 ^ 1074) ∙ sym (ap (λ (x : ℕ). x * c) (zero-mul (2 ^ 0)) ∙ zero-mul c))
exact_value s (suc m) e a c pc t h =
    let H = held s m e t in
    let P = power e H.fine in
    let J = 2 ^ P.j in
    let n = suc m in
    let W = 2 ^ 1074 in
    let D = down e in
    -- n * J * D ≡ n * up e * W
    let one : n * J * D ≡ n * up e * W = mul_assoc n J D ∙ ap (λ (x : ℕ). n * x) (sym P.is) ∙ sym (mul_assoc n (up e) W) in
    let fine : n * J * D < 2 ^ 2098 * D =
    subst (λ (x : ℕ). n * J * D < x) (mul_right_comm (2 ^ 1024) D W ∙ ap (λ (x : ℕ). x * D) (sym (pow-add 2 1024 1074)))
    (subst (λ (x : ℕ). x < 2 ^ 1024 * D * W) (sym one) (mul-lt-mul_of_pos_right H.small (pow_pos 1074))) in
    let eqn : a * W * D ≡ n * J * c * D =
    mul_right_comm a W D ∙ ap (λ (x : ℕ). x * W) (sym h) ∙ mul_right_comm (n * up e) c W ∙ ap (λ (x : ℕ). x * c) (sym one) ∙ mul_right_comm (n * J) D c in
    round_exact binary64 s a c n P.j pc H.short (lt_of_mul-lt-mul_right D {m = n * J} {n = 2 ^ 2098} fine) (eq_of_mul-eq-mul_right D (down_pos e) (a * W) (n * J * c) eqn)

pub round_back : (s : Bool) (m : ℕ) (e : ℤ) (a c : ℕ) → 0 < c → T (fits binary64 (fin s m e)) → m * up e * c ≡ a * down e → round binary64 s a c ≡ fin s m e
round_back s m e a c pc t h = unique (round binary64 s a c) (fin s m e) s a c pc (round-fits binary64 s a c) t (exact_value s m e a c pc t h) (refl, h)

-- ---- the operands
abbrev pub minus_zero : Float
minus_zero = fin true 0 (pos 0)

abbrev pub plus_zero : Float
plus_zero = fin false 0 (pos 0)

abbrev pub plus_one : Float
plus_one = fin false 1 (pos 0)

pub add_right : (x : Float) → T (fits binary64 x) → add binary64 x minus_zero ≡ x
unfolding add sum
add_right nan t = refl
add_right (inf s) t = refl
add_right (fin true m e) t =
    round_back true m e (m * up e * 1 + 0 * 1 * down e) (down e * 1) (mul-pos (down_pos e) (zero-lt-suc 0)) t
    (omega (arith, zero-mul (down e), mul-one (down e), mul-one (m * up e), ap (λ (z : ℕ). z * down e) (let y : m * up e * 1 + 0 * 1 * down e ≡ m * up e = omega (arith, zero-mul (down e), mul-one (m * up e)) in y), ap (λ (z : ℕ). m * up e * z) (mul-one (down e))))
add_right (fin false m e) t = go (ltb (m * up e * 1) (0 * 1 * down e)) refl
  where
    A : ℕ
    A = m * up e * 1

    Z : ℕ
    Z = 0 * 1 * down e

    z : Z ≡ 0
    z = zero-mul (down e)

    go : (b : Bool) → ltb A Z ≡ b → cond b (round binary64 true (Z - A) (down e * 1)) (round binary64 (false && ltb Z A) (A - Z) (down e * 1)) ≡ fin false m e
    go true q = absurd (omega (arith, ltb-true A Z q, z))
    go false q = round_back false m e (A - Z) (down e * 1) (mul-pos (down_pos e) (zero-lt-suc 0)) t
        (ap (λ (y : ℕ). m * up e * y) (mul-one (down e)) ∙ ap (λ (y : ℕ). y * down e) (let y : m * up e ≡ A - Z = omega (arith, z, mul-one (m * up e)) in y))

pub add_left : (x : Float) → T (fits binary64 x) → add binary64 minus_zero x ≡ x
unfolding add sum
add_left nan t = refl
add_left (inf s) t = refl
add_left (fin true m e) t =
    round_back true m e (0 * 1 * down e + m * up e * 1) (1 * down e) (mul-pos (zero-lt-suc 0) (down_pos e)) t
    (ap (λ (y : ℕ). m * up e * y) (one-mul (down e)) ∙ ap (λ (y : ℕ). y * down e) (let y : m * up e ≡ 0 * 1 * down e + m * up e * 1 = omega (arith, zero-mul (down e), mul-one (m * up e)) in y))
add_left (fin false m e) t = go (ltb Z A) (ltb A Z) refl refl
  where
    A : ℕ
    A = m * up e * 1

    Z : ℕ
    Z = 0 * 1 * down e

    z : Z ≡ 0
    z = zero-mul (down e)

    pc : 0 < 1 * down e
    pc = mul-pos (zero-lt-suc 0) (down_pos e)

    is : (n : ℕ) → n ≡ A → m * up e * (1 * down e) ≡ n * down e
    is n q = ap (λ (y : ℕ). m * up e * y) (one-mul (down e)) ∙ ap (λ (y : ℕ). y * down e) (sym (mul-one (m * up e)) ∙ sym q)

    go : (b c : Bool) → ltb Z A ≡ b → ltb A Z ≡ c → cond b (round binary64 false (A - Z) (1 * down e)) (round binary64 (true && c) (Z - A) (1 * down e)) ≡ fin false m e
    go true c q r = round_back false m e (A - Z) (1 * down e) pc t (is (A - Z) (omega (arith, z)))
    go false true q r = absurd (omega (arith, ltb-true A Z r, z))
    go false false q r = round_back false m e (Z - A) (1 * down e) pc t (is (Z - A) (omega (arith, z, ltb-false Z A q)))

pub sub_right : (x : Float) → T (fits binary64 x) → sub binary64 x plus_zero ≡ x
unfolding sub neg
sub_right x t = add_right x t

unlike_false : (s : Bool) → unlike s false ≡ s
unlike_false true = refl
unlike_false false = refl

false_unlike : (s : Bool) → unlike false s ≡ s
false_unlike true = refl
false_unlike false = refl

pub mul_right : (x : Float) → T (fits binary64 x) → mul binary64 x plus_one ≡ x
unfolding mul
mul_right nan t = refl
mul_right (inf s) t = ap inf (unlike_false s)
mul_right (fin s m e) t = ap (λ (b : Bool). round binary64 b (m * up e * (1 * 1)) (down e * 1)) (unlike_false s)
    ∙ round_back s m e (m * up e * (1 * 1)) (down e * 1) (mul-pos (down_pos e) (zero-lt-suc 0)) t
    (ap (λ (y : ℕ). m * up e * y) (mul-one (down e)) ∙ ap (λ (y : ℕ). y * down e) (sym (mul-one (m * up e))))

pub mul_left : (x : Float) → T (fits binary64 x) → mul binary64 plus_one x ≡ x
unfolding mul
mul_left nan t = refl
mul_left (inf s) t = ap inf (false_unlike s)
mul_left (fin s m e) t = ap (λ (b : Bool). round binary64 b (1 * 1 * (m * up e)) (1 * down e)) (false_unlike s)
    ∙ round_back s m e (1 * 1 * (m * up e)) (1 * down e) (mul-pos (zero-lt-suc 0) (down_pos e)) t
    (ap (λ (y : ℕ). m * up e * y) (one-mul (down e)) ∙ ap (λ (y : ℕ). y * down e) (sym (one-mul (m * up e))))

pub div_right : (x : Float) → T (fits binary64 x) → div binary64 x plus_one ≡ x
unfolding div
div_right nan t = refl
div_right (inf s) t = ap inf (unlike_false s)
div_right (fin s m e) t = ap (λ (b : Bool). round binary64 b (m * up e * 1) (1 * 1 * down e)) (unlike_false s)
    ∙ round_back s m e (m * up e * 1) (1 * 1 * down e) (mul-pos (zero-lt-suc 0) (down_pos e)) t
    (ap (λ (y : ℕ). m * up e * y) (one-mul (down e)) ∙ ap (λ (y : ℕ). y * down e) (sym (mul-one (m * up e))))

not_not : (s : Bool) → not (not s) ≡ s
not_not true = refl
not_not false = refl

pub neg_neg : (x : Float) → neg (neg x) ≡ x
unfolding neg
neg_neg nan = refl
neg_neg (inf s) = ap inf (not_not s)
neg_neg (fin s m e) = ap (λ b. fin b m e) (not_not s)
