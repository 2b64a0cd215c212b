-- A test of `Nearest` that antt computes. It divides both numbers by 2 ^ more first, so that the powers compared are shorter. Assumes nothing.
use mathlib.Core.Path.{◌≡◌, sym, ap, ap₂, ◌∙◌, subst, subst₂}
use mathlib.Core.List.{List}
use Prim.Native.Nat.{ℕ, ◌+◌, ◌-◌, ◌*◌, ◌^◌, ◌≤◌, ◌<◌}
use native.Mathlib.Nat.{le_of_lt, mul_assoc, mul_right_comm, add-mul, mul-lt-mul_of_pos_right}
use native.Mathlib.Omega.{arith}
use mathlib.Core.Bool.{Bool, ◌&&◌}
use lib.Dec.{T, ltb, ltb→lt}
use lib.ListN.{length, get_or}
use lib.Ieee.Fits.{and_l, and_r}
use lib.Pow.{pow-add, pow_pos}
use lib.Ieee.{binary64, hid, low}
use Rattle.thresholds.specs.Nearest.{Scale, Nearest, raised, target, units}
use Rattle.thresholds.proofs.Units.{units_raised}
use Rattle.thresholds.proofs.Powers.{power_of_product, power_of_power}
use Rattle.thresholds.proofs.TableRule.{every, at_number}

module _ (scale : Scale) (more : ℕ) where
  -- `target`, divided by 2 ^ (more · root)
  abbrev short_target : ℕ → ℕ
  short_target n = 10 ^ (scale.slope * n) * 2 ^ ((low binary64 + 1 - more) * scale.root)

  raised_more : (sum : ℕ) → raised scale (sum * 2 ^ more) ≡ raised scale sum * 2 ^ (more * scale.root)
  raised_more sum =
      ap (λ (x : ℕ). x * 10 ^ scale.offset)
      (power_of_product sum (2 ^ more) scale.root ∙ ap (λ (x : ℕ). sum ^ scale.root * x) (power_of_power 2 more scale.root))
      ∙ mul_right_comm (sum ^ scale.root) (2 ^ (more * scale.root)) (10 ^ scale.offset)

  target_more : (n : ℕ) → more ≤ low binary64 + 1 → short_target n * 2 ^ (more * scale.root) ≡ target scale n
  target_more n h =
      let power = 10 ^ (scale.slope * n) in
      let short = (low binary64 + 1 - more) * scale.root in
      let exponents : short + more * scale.root ≡ (low binary64 + 1) * scale.root =
      sym (add-mul (low binary64 + 1 - more) more scale.root) ∙ ap (λ (x : ℕ). x * scale.root) (omega arith) in
      mul_assoc power (2 ^ short) (2 ^ (more * scale.root))
      ∙ ap (λ (x : ℕ). power * x) (sym (pow-add 2 short (more * scale.root)) ∙ ap (λ (x : ℕ). 2 ^ x) exponents)

  -- the sum of two normal numbers whose exponents are raised
  sum_raised : (a b : ℕ) → hid binary64 ≤ a → hid binary64 ≤ b
      → units (a + more * hid binary64) + units (b + more * hid binary64) ≡ (units a + units b) * 2 ^ more
  sum_raised a b h k = ap₂ (λ (x y : ℕ). x + y) (units_raised a more h) (units_raised b more k) ∙ sym (add-mul (units a) (units b) (2 ^ more))

  raised_of_raised : (a b : ℕ) → hid binary64 ≤ a → hid binary64 ≤ b
      → raised scale (units (a + more * hid binary64) + units (b + more * hid binary64))
      ≡ raised scale (units a + units b) * 2 ^ (more * scale.root)
  raised_of_raised a b h k = ap (raised scale) (sum_raised a b h k) ∙ raised_more (units a + units b)

  -- `Nearest`, of a normal number and the setting's number both divided by 2 ^ more
  record ShortNearest (n bits : ℕ) : Type 0 where
    normal : hid binary64 < bits
    above_lower : raised scale (units (bits - 1) + units bits) < short_target n
    below_upper : short_target n < raised scale (units bits + units (bits + 1))

  nearest_of_short : (n bits : ℕ) → more ≤ low binary64 + 1 → ShortNearest n bits → Nearest scale n (bits + more * hid binary64)
  nearest_of_short n bits h short =
      let power : 0 < 2 ^ (more * scale.root) = pow_pos (more * scale.root) in
      let above : hid binary64 ≤ bits = le_of_lt short.normal in
      record {
        above_lower =
            subst (λ (x : ℕ). raised scale (units x + units (bits + more * hid binary64)) < target scale n) (omega (arith, short.normal))
            (subst₂ (λ (x y : ℕ). x < y) (sym (raised_of_raised (bits - 1) bits (omega (arith, short.normal)) above)) (target_more n h)
            (mul-lt-mul_of_pos_right short.above_lower power));
        below_upper =
            subst (λ (x : ℕ). target scale n < raised scale (units (bits + more * hid binary64) + units x)) (omega arith)
            (subst₂ (λ (x y : ℕ). x < y) (target_more n h) (sym (raised_of_raised bits (bits + 1) above (omega arith)))
            (mul-lt-mul_of_pos_right short.below_upper power));
      }

  short_test : ℕ → ℕ → Bool
  short_test n bits =
      ltb (hid binary64) bits
      && (ltb (raised scale (units (bits - 1) + units bits)) (short_target n)
      && ltb (short_target n) (raised scale (units bits + units (bits + 1))))

  short_of_test : (n bits : ℕ) → T (short_test n bits) → ShortNearest n bits
  unfolding short_test
  short_of_test n bits passed =
      let normal = ltb (hid binary64) bits in
      let lower = ltb (raised scale (units (bits - 1) + units bits)) (short_target n) in
      let upper = ltb (short_target n) (raised scale (units bits + units (bits + 1))) in
      let between : T (lower && upper) = and_r normal (lower && upper) passed in
      record {
        normal = ltb→lt _ _ (and_l normal (lower && upper) passed);
        above_lower = ltb→lt _ _ (and_l lower upper between);
        below_upper = ltb→lt _ _ (and_r lower upper between);
      }

  unfoldable pub nearest_test : ℕ → ℕ → Bool
  unfolding short_test
  nearest_test n bits = short_test n (bits - more * hid binary64)

  nearest_of_test : (n bits : ℕ) → more ≤ low binary64 + 1 → T (nearest_test n bits) → Nearest scale n bits
  unfolding nearest_test
  nearest_of_test n bits h passed =
      let short : ShortNearest n (bits - more * hid binary64) = short_of_test n (bits - more * hid binary64) passed in
      subst (λ (x : ℕ). Nearest scale n x) (omega (arith, short.normal)) (nearest_of_short n (bits - more * hid binary64) h short)

  -- the test over a whole table, carried to each entry
  pub nearest_in_table : (first : ℕ) (table : List ℕ) → more ≤ low binary64 + 1 → T (every nearest_test first table)
      → (n : ℕ) → first ≤ n → n < first + length table → Nearest scale n (get_or table (n - first) 0)
  nearest_in_table first table h passed n from to =
      nearest_of_test n (get_or table (n - first) 0) h (at_number nearest_test first table passed n from to)
