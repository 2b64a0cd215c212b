-- Powers of products and of powers. Assumes nothing.
use mathlib.Core.Path.{◌≡◌, sym, ap, ap₂, ◌∙◌}
use Prim.Native.Nat.{ℕ, zero, suc, ◌+◌, ◌*◌, ◌/◌, ◌%◌, ◌^◌}
use native.Mathlib.Nat.{mul-mul-mul_comm, mul-suc, mul-zero, mul-one, mul_comm, pow-zero, pow-suc, div-add-mod'}
use lib.Pow.{pow-add}

pub power_of_product : (a b n : ℕ) → (a * b) ^ n ≡ a ^ n * b ^ n
power_of_product a b zero = simp (pow-zero, mul-one)
power_of_product a b (suc n) =
    pow-suc (a * b) n ∙ ap (λ (x : ℕ). x * (a * b)) (power_of_product a b n)
    ∙ mul-mul-mul_comm (a ^ n) (b ^ n) a b
    ∙ ap₂ (λ (x y : ℕ). x * y) (sym (pow-suc a n)) (sym (pow-suc b n))

pub power_of_power : (a m n : ℕ) → (a ^ m) ^ n ≡ a ^ (m * n)
power_of_power a m zero = simp (pow-zero, mul-zero)
power_of_power a m (suc n) =
    pow-suc (a ^ m) n ∙ ap (λ (x : ℕ). x * a ^ m) (power_of_power a m n)
    ∙ sym (pow-add a (m * n) m) ∙ ap (λ (x : ℕ). a ^ x) (sym (mul-suc m n))

-- a power by parts of m, and the rest
pub power_by_parts : (a m n : ℕ) → (a ^ m) ^ (n / m) * a ^ (n % m) ≡ a ^ n
power_by_parts a m n =
    ap (λ (x : ℕ). x * a ^ (n % m)) (power_of_power a m (n / m))
    ∙ sym (pow-add a (m * (n / m)) (n % m))
    ∙ ap (λ (x : ℕ). a ^ x) (ap (λ (x : ℕ). x + n % m) (mul_comm m (n / m)) ∙ div-add-mod' n m)
