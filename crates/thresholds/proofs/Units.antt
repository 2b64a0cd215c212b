-- The units of a bit pattern: a larger pattern has no fewer, and they are the value that IEEE 754 gives the pattern. Assumes nothing.
use mathlib.Core.Path.{◌≡◌, sym, ap, ap₂, ◌∙◌, subst}
use mathlib.Core.Logic.{inl, inr}
use mathlib.Core.Bool.{Bool, false}
use Prim.Native.Nat.{ℕ, zero, suc, ◌+◌, ◌*◌, ◌/◌, ◌%◌, ◌^◌, ◌≤◌, ◌<◌}
use native.Mathlib.Nat.{le_trans, le_of_eq, eq-or-lt_of_le, le_of_suc-le-suc, mul-le-mul_right, mul_assoc, mul_comm, mul-one, pow-suc, mod-lt, mod-eq_of_lt, div-add-mod', div-lt_iff_lt-mul}
use native.Mathlib.Omega.{arith}
use lib.Dec.{leb}
use borrow.Author.Tests.{lt-leb, ne_eqb}
use lib.Arith.{digits_div, digits_mod}
use lib.Pow.{pow_pos, pow-add}
use lib.Ieee.{Float, binary64, prec, low, hid, ones, top, of_fields, of_bits}
use lib.Ieee.Exact.{HasValue, odd_sign}
use Rattle.thresholds.specs.Nearest.{units_of_fields, units}

pub of_fields_lem : (exponent digits : ℕ) → digits < hid binary64 → units (exponent * hid binary64 + digits) ≡ units_of_fields exponent digits
unfolding units
of_fields_lem exponent digits h = ap₂ units_of_fields (digits_div exponent h) (digits_mod exponent h)

-- one digit more, in the same exponent's field
more_digits : (exponent digits : ℕ) → units_of_fields exponent digits ≤ units_of_fields exponent (digits + 1)
unfolding units_of_fields
more_digits zero digits = omega arith
more_digits (suc exponent) digits = mul-le-mul_right (2 ^ exponent) (omega arith)

-- the next exponent's field, with no digits
next_field : (exponent digits : ℕ) → digits ≤ hid binary64 → units_of_fields exponent digits ≤ units_of_fields (suc exponent) 0
unfolding units_of_fields
next_field zero digits h = simp mul-one h
next_field (suc exponent) digits h =
    le_trans (mul-le-mul_right (2 ^ exponent) (omega arith))
    (le_of_eq
    (mul_assoc (hid binary64) 2 (2 ^ exponent) ∙ ap (λ (x : ℕ). hid binary64 * x) (mul_comm 2 (2 ^ exponent) ∙ sym (pow-suc 2 exponent))))

-- the pattern after the one with these fields
next : (exponent digits : ℕ) → digits < hid binary64
    → units (exponent * hid binary64 + digits) ≤ units (exponent * hid binary64 + (digits + 1))
next exponent digits h =
    elim (eq-or-lt_of_le h) [
      | inl e ↦
          subst (λ (x : ℕ). units (exponent * hid binary64 + digits) ≤ units x) (omega (arith, e))
          (le_trans (le_of_eq (of_fields_lem exponent digits h))
          (le_trans (next_field exponent digits (omega arith)) (le_of_eq (sym (of_fields_lem (suc exponent) 0 (omega arith))))))
      | inr l ↦
          let m : digits + 1 < hid binary64 = omega arith in
          le_trans (le_of_eq (of_fields_lem exponent digits h))
          (le_trans (more_digits exponent digits) (le_of_eq (sym (of_fields_lem exponent (digits + 1) m))))
    ]

rises : (bits : ℕ) → units bits ≤ units (suc bits)
rises bits =
    let e : bits / hid binary64 * hid binary64 + bits % hid binary64 ≡ bits = div-add-mod' bits (hid binary64) in
    subst (λ (x : ℕ). units x ≤ units (suc x)) e
    (subst (λ (x : ℕ). units (bits / hid binary64 * hid binary64 + bits % hid binary64) ≤ units x) (omega arith)
    (next (bits / hid binary64) (bits % hid binary64) (mod-lt bits (pow_pos 52))))

pub units_mono : (a b : ℕ) → a ≤ b → units a ≤ units b
units_mono a zero h = le_of_eq (ap units (omega arith))
units_mono a (suc b) h =
    elim (eq-or-lt_of_le h) [ inl e ↦ le_of_eq (ap units e) | inr l ↦ le_trans (units_mono a b (le_of_suc-le-suc l)) (rises b) ]

-- ---- a larger exponent

fields_raised : (exponent digits more : ℕ) → digits < hid binary64
    → units (suc exponent * hid binary64 + digits + more * hid binary64) ≡ units (suc exponent * hid binary64 + digits) * 2 ^ more
unfolding units_of_fields
fields_raised exponent digits more h =
    ap units (omega arith) ∙ of_fields_lem (suc (exponent + more)) digits h
    ∙ ap (λ (x : ℕ). (hid binary64 + digits) * x) (pow-add 2 exponent more) ∙ sym (mul_assoc (hid binary64 + digits) (2 ^ exponent) (2 ^ more))
    ∙ ap (λ (x : ℕ). x * 2 ^ more) (sym (of_fields_lem (suc exponent) digits h))

-- Raising the exponent of a normal number by `more` multiplies the number by 2 ^ more.
pub units_raised : (bits more : ℕ) → hid binary64 ≤ bits → units (bits + more * hid binary64) ≡ units bits * 2 ^ more
units_raised bits more normal = by_field (bits / hid binary64) (div-add-mod' bits (hid binary64))
  where
    by_field : (exponent : ℕ) → exponent * hid binary64 + bits % hid binary64 ≡ bits → units (bits + more * hid binary64) ≡ units bits * 2 ^ more
    by_field zero e = absurd (omega (arith, mod-lt bits (pow_pos 52)))
    by_field (suc exponent) e = rw e at (fields_raised exponent (bits % hid binary64) more (mod-lt bits (pow_pos 52)))

-- ---- IEEE 754's value

fields_value : (exponent digits : ℕ) → exponent < ones binary64
    → HasValue (of_fields binary64 false exponent digits) false (units_of_fields exponent digits) (2 ^ low binary64)
unfolding of_fields units_of_fields
fields_value zero digits h = rw mul-one at (odd_sign (prec binary64) false digits 0 (low binary64))
fields_value (suc exponent) digits h =
    rw (ne_eqb (suc exponent) (ones binary64) λ e. omega arith) (odd_sign (prec binary64) false (hid binary64 + digits) exponent (low binary64))

-- A pattern below infinity's stands for its units of 2 ^ -low.
pub units_value : (bits : ℕ) → bits < ones binary64 * hid binary64 → HasValue (of_bits binary64 bits) false (units bits) (2 ^ low binary64)
unfolding of_bits units
units_value bits h =
    let sign : leb (top binary64) bits ≡ false = lt-leb (top binary64) bits (omega arith) in
    let whole : bits % top binary64 ≡ bits = mod-eq_of_lt (omega arith) in
    subst (λ (x : Float). HasValue x false (units bits) (2 ^ low binary64))
    (ap₂ (λ (s : Bool) (x : ℕ). of_fields binary64 s (x / hid binary64) (bits % hid binary64)) (sym sign) (sym whole))
    (fields_value (bits / hid binary64) (bits % hid binary64) ((div-lt_iff_lt-mul (pow_pos 52)).1 h))
