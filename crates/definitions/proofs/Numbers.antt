-- The laws of the dyadic numbers.
use Prim.Native.Nat.{ℕ, zero, suc, ◌+◌, ◌*◌, ◌^◌, ◌<◌, ◌≤◌}
use mathlib.Core.Path.{◌≡◌, refl, sym, ap, ◌∙◌, subst, subst₂}
use mathlib.Core.HLevel.{Π_prop}
use mathlib.Core.Quot.Quotient
use mathlib.Core.Quot.{Quot, mk, sound, Quot-set, ind, Setoid}
use mathlib.Core.Logic.{Equivalence}
use native.Mathlib.Omega.{arith}
use native.Mathlib.Nat.{add-mul, mul-add, mul-mul-mul_comm, mul_comm, mul_assoc, mul_left_comm, add_comm, mul-one, zero-mul, mul-zero, pow-zero, one-mul, add-zero, zero-add, add_assoc, eq_of_mul-eq-mul_right, mul_right_comm, ℕ_set}
use lib.Pow.{pow-add, pow_pos}
use Rattle.definitions.specs.Dyadic.{Fraction, fraction, Same, plus_fraction, times_fraction, opposite_fraction, fraction_eq, plus_fraction_comm, times_fraction_comm, Dyadic, dyadic, plus, times, opposite, zero_value, one_value}

D-prop : (x y : Dyadic) → IsProp (x ≡ y)
D-prop x y = Quot-set x y

-- a law at every number from the law at every fraction
one_of : (f g : Dyadic → Dyadic) → ((a : Fraction) → f (dyadic a) ≡ g (dyadic a)) → (x : Dyadic) → f x ≡ g x
one_of f g h x = ind {β = λ q. f q ≡ g q} (λ q. D-prop (f q) (g q)) h x

two_of : (f g : Dyadic → Dyadic → Dyadic) → ((a b : Fraction) → f (dyadic a) (dyadic b) ≡ g (dyadic a) (dyadic b)) → (x y : Dyadic) → f x y ≡ g x y
two_of f g h x y = one_of (λ q. f q y) (λ q. g q y) (λ a. one_of (f (dyadic a)) (g (dyadic a)) (h a) y) x

three_of : (f g : Dyadic → Dyadic → Dyadic → Dyadic) → ((a b c : Fraction) → f (dyadic a) (dyadic b) (dyadic c) ≡ g (dyadic a) (dyadic b) (dyadic c)) → (x y z : Dyadic) → f x y z ≡ g x y z
three_of f g h x y z = one_of (λ q. f q y z) (λ q. g q y z) (λ a. two_of (f (dyadic a)) (g (dyadic a)) (h a) y z) x

pub plus_comm : (x y : Dyadic) → plus x y ≡ plus y x
unfolding plus
plus_comm x y = two_of (λ x y. plus x y) (λ x y. plus y x) (λ a b. ap dyadic (plus_fraction_comm a b)) x y

pub times_comm : (x y : Dyadic) → times x y ≡ times y x
unfolding times
times_comm x y = two_of (λ x y. times x y) (λ x y. times y x) (λ a b. ap dyadic (times_fraction_comm a b)) x y

-- (p B + q A) C + r (A B)  and  p (B C) + (q C + r B) A
assoc_law : (p q r A B C : ℕ) → (p * B + q * A) * C + r * (A * B) ≡ p * (B * C) + (q * C + r * B) * A
assoc_law p q r A B C =
    omega (arith, add-mul (p * B) (q * A) C, add-mul (q * C) (r * B) A, mul_assoc p B C, mul_right_comm q A C, mul_assoc r B A, mul_comm B A)

plus_f_assoc : (a b c : Fraction) → plus_fraction (plus_fraction a b) c ≡ plus_fraction a (plus_fraction b c)
plus_f_assoc a b c = fraction_eq
    (rw (pow-add 2 a.bits b.bits, pow-add 2 b.bits c.bits) (assoc_law a.positive b.positive c.positive (2 ^ a.bits) (2 ^ b.bits) (2 ^ c.bits)))
    (rw (pow-add 2 a.bits b.bits, pow-add 2 b.bits c.bits) (assoc_law a.negative b.negative c.negative (2 ^ a.bits) (2 ^ b.bits) (2 ^ c.bits)))
    (add_assoc a.bits b.bits c.bits)

pub plus_assoc : (x y z : Dyadic) → plus (plus x y) z ≡ plus x (plus y z)
unfolding plus
plus_assoc x y z = three_of (λ x y z. plus (plus x y) z) (λ x y z. plus x (plus y z)) (λ a b c. ap dyadic (plus_f_assoc a b c)) x y z

times_assoc_law : (p n q m r s : ℕ) → (p * q + n * m) * r + (p * m + n * q) * s ≡ p * (q * r + m * s) + n * (q * s + m * r)
times_assoc_law p n q m r s =
    omega (
      arith,
      add-mul (p * q) (n * m) r,
      add-mul (p * m) (n * q) s,
      mul-add p (q * r) (m * s),
      mul-add n (q * s) (m * r),
      mul_assoc p q r,
      mul_assoc n m r,
      mul_assoc p m s,
      mul_assoc n q s,
    )

times_f_assoc : (a b c : Fraction) → times_fraction (times_fraction a b) c ≡ times_fraction a (times_fraction b c)
times_f_assoc a b c = fraction_eq
    (times_assoc_law a.positive a.negative b.positive b.negative c.positive c.negative)
    (times_assoc_law a.positive a.negative b.positive b.negative c.negative c.positive)
    (add_assoc a.bits b.bits c.bits)

pub times_assoc : (x y z : Dyadic) → times (times x y) z ≡ times x (times y z)
unfolding times
times_assoc x y z = three_of (λ x y z. times (times x y) z) (λ x y z. times x (times y z)) (λ a b c. ap dyadic (times_f_assoc a b c)) x y z

pub plus_zero_lem : (x : Dyadic) → plus x zero_value ≡ x
unfolding plus
plus_zero_lem x = one_of (λ x. plus x zero_value) (λ x. x)
    (λ a. ap dyadic (fraction_eq (omega (arith, zero-mul (2 ^ a.bits))) (omega (arith, zero-mul (2 ^ a.bits))) (add-zero a.bits))) x

pub zero_plus : (x : Dyadic) → plus zero_value x ≡ x
zero_plus x = plus_comm zero_value x ∙ plus_zero_lem x

pub times_one : (x : Dyadic) → times x one_value ≡ x
unfolding times
times_one x = one_of (λ x. times x one_value) (λ x. x)
    (λ a. ap dyadic (fraction_eq (omega (arith, mul-one a.positive, mul-zero a.negative)) (omega (arith, mul-zero a.positive, mul-one a.negative)) (add-zero a.bits))) x

pub one_times : (x : Dyadic) → times one_value x ≡ x
one_times x = times_comm one_value x ∙ times_one x

pub times_zero : (x : Dyadic) → times x zero_value ≡ zero_value
unfolding times
times_zero x = one_of (λ x. times x zero_value) (λ x. zero_value)
    (λ a. sound (omega (arith, mul-zero a.positive, mul-zero a.negative, ap (λ (z : ℕ). z * 2 ^ 0) (mul-zero a.positive), zero-mul (2 ^ (a.bits + 0))))) x

pub zero_times : (x : Dyadic) → times zero_value x ≡ zero_value
zero_times x = times_comm zero_value x ∙ times_zero x

pub opp_opp : (x : Dyadic) → opposite (opposite x) ≡ x
unfolding opposite
opp_opp x = one_of (λ x. opposite (opposite x)) (λ x. x) (λ a. refl) x

pub plus_opp : (x : Dyadic) → plus x (opposite x) ≡ zero_value
unfolding plus opposite
plus_opp x = one_of (λ x. plus x (opposite x)) (λ x. zero_value)
    (λ a. sound (omega (arith, zero-mul (2 ^ (a.bits + a.bits))))) x

-- ---- what the patterns do to values
pub merge_times_left : (c d q : Dyadic) → times (times c d) (times q one_value) ≡ times (times c (times q one_value)) (times d one_value)
merge_times_left c d q = simp times_one (times_assoc c d q ∙ ap (times c) (times_comm d q) ∙ sym (times_assoc c q d))

pub merge_times_right : (c d q : Dyadic) → times q (times (times c d) one_value) ≡ times (times q (times c one_value)) (times d one_value)
merge_times_right c d q = simp times_one (sym (times_assoc q c d))

pub merge_plus_left : (c d q : Dyadic) → plus q (plus (plus c d) zero_value) ≡ plus (plus c (plus q zero_value)) (plus d zero_value)
merge_plus_left c d q = simp plus_zero_lem (sym (plus_assoc q c d) ∙ ap (λ x. plus x d) (plus_comm q c))

pub merge_plus_right : (c d q : Dyadic) → plus q (plus (plus c d) zero_value) ≡ plus (plus q (plus c zero_value)) (plus d zero_value)
merge_plus_right c d q = simp plus_zero_lem (sym (plus_assoc q c d))

-- ---- two fractions are one number only where they are the same: the quotient puts nothing else together
same_sym : (a b : Fraction) → Same a b → Same b a
same_sym a b h = omega (arith, h)

trans_law : (p n p' n' p'' n'' A B C : ℕ) → 0 < B → p * B + n' * A ≡ p' * A + n * B → p' * C + n'' * B ≡ p'' * B + n' * C → p * C + n'' * A ≡ p'' * A + n * C
trans_law p n p' n' p'' n'' A B C b h k =
    let x : (p * B + n' * A) * C ≡ (p' * A + n * B) * C = ap (λ (z : ℕ). z * C) h in
    let y : (p' * C + n'' * B) * A ≡ (p'' * B + n' * C) * A = ap (λ (z : ℕ). z * A) k in
    eq_of_mul-eq-mul_right B b (p * C + n'' * A) (p'' * A + n * C)
    (omega (
      arith,
      x,
      y,
      add-mul (p * B) (n' * A) C,
      add-mul (p' * A) (n * B) C,
      add-mul (p' * C) (n'' * B) A,
      add-mul (p'' * B) (n' * C) A,
      add-mul (p * C) (n'' * A) B,
      add-mul (p'' * A) (n * C) B,
      mul_right_comm p B C,
      mul_right_comm n' A C,
      mul_right_comm p' A C,
      mul_right_comm n B C,
      mul_right_comm n'' B A,
      mul_right_comm p'' B A,
    ))

same_trans : (a b c : Fraction) → Same a b → Same b c → Same a c
same_trans a b c h k = trans_law a.positive a.negative b.positive b.negative c.positive c.negative (2 ^ a.bits) (2 ^ b.bits) (2 ^ c.bits) (pow_pos b.bits) h k

abbrev sameness : Setoid {0, 0} Fraction
sameness = record { r = Same; iseqv = record { refl = λ a. refl; symm = λ a b h. same_sym a b h; trans = λ a b c h k. same_trans a b c h k } }

pub apart : (a b : Fraction) → dyadic a ≡ dyadic b → Same a b
apart a b e = Quotient.exact sameness (λ a b. ℕ_set _ _) e

pub zero≢one : zero_value ≡ one_value → ⊥
zero≢one e = let h = apart (fraction 0 0 0) (fraction 1 0 0) e in omega arith
