-- Products with a number, added modulo 2^64.
use Rattle.std.proofs.Common.{◌≡◌, ℕ, ◌+◌, ◌*◌, ◌%◌, ◌^◌, sym, ap, ◌∙◌, mul-one, mul-add}
use native.Mathlib.Nat.{add-mod, mod-add-mod}
use Rattle.hash.specs.Fnv.{times_prime, printed, PrintedIsPrime}

-- two products added are the product with the sum
together : (h a b : ℕ) → (h * a % 2 ^ 64 + h * b % 2 ^ 64) % 2 ^ 64 ≡ h * (a + b) % 2 ^ 64
together h a b = sym (add-mod (h * a) (h * b) (2 ^ 64)) ∙ ap (λ (x : ℕ). x % 2 ^ 64) (sym (mul-add h a b))

module _ (h p q a : ℕ) (was : p ≡ h * a % 2 ^ 64) where
  -- one product more
  pub add_product : (b : ℕ) → q ≡ (p + h * b % 2 ^ 64) % 2 ^ 64 → q ≡ h * (a + b) % 2 ^ 64
  add_product b is = is ∙ ap (λ (x : ℕ). (x + h * b % 2 ^ 64) % 2 ^ 64) was ∙ together h a b

  -- the number itself
  pub add_once : q ≡ (p + h) % 2 ^ 64 → q ≡ h * (a + 1) % 2 ^ 64
  add_once is =
      is
      ∙ ap (λ (x : ℕ). (x + h) % 2 ^ 64) was
      ∙ mod-add-mod (h * a) (2 ^ 64) h
      ∙ ap (λ (x : ℕ). x % 2 ^ 64) (ap (λ (x : ℕ). h * a + x) (sym (mul-one h)) ∙ sym (mul-add h a 1))

-- the three products, added one after another
pub added : (h first all last : ℕ) → first ≡ (h * 2 ^ 40 % 2 ^ 64 + h * 2 ^ 8 % 2 ^ 64) % 2 ^ 64 → last ≡ h * 179 % 2 ^ 64
    → all ≡ (first + last) % 2 ^ 64 → all ≡ printed h
unfolding printed
added h first all last a b e = e ∙ (λ i. (a i + b i) % 2 ^ 64)

pub printed_is_prime : PrintedIsPrime
unfolding printed times_prime
printed_is_prime h = ap (λ (x : ℕ). (x + h * 179 % 2 ^ 64) % 2 ^ 64) (together h (2 ^ 40) (2 ^ 8)) ∙ together h (2 ^ 40 + 2 ^ 8) 179
