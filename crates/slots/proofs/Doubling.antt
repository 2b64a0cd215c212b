-- The sizes of a table.
use Prim.Native.Nat.{ℕ, zero, suc, ◌+◌, ◌*◌, ◌-◌, ◌/◌, ◌%◌, ◌^◌, ◌≤◌, ◌<◌}
use mathlib.Core.Path.{◌≡◌, sym, ap, ◌∙◌, subst}
use lib.Bits.{bit_and, and_mask}
use lib.Pow.{pow_pos, pow-add}
use native.Mathlib.Omega.{arith}
use native.Mathlib.Nat.{pow-suc, mul_assoc, mul-one, mul-le-mul_left}
use Rattle.slots.specs.Table.{TableSize}

-- one doubling more
again : (s m : ℕ) → s * 2 ^ suc m ≡ s * 2 ^ m * 2
again s m = ap (λ (x : ℕ). s * x) (pow-suc 2 m) ∙ sym (mul_assoc s (2 ^ m) 2)

pub at_least : (size : ℕ) → TableSize size → 64 ≤ size
at_least size t = rw t.is (subst (λ (x : ℕ). x ≤ 64 * 2 ^ t.doublings) (mul-one 64) (mul-le-mul_left 64 (pow_pos t.doublings)))

pub positive : (size : ℕ) → TableSize size → 0 < size
positive size t = let l = at_least size t in omega arith

-- the remainder by a power of two is a mask
pub modulo_is : (x size : ℕ) → TableSize size → bit_and x (size - 1) ≡ x % size
modulo_is x size t = rw e (and_mask x (6 + t.doublings))
  where
    e : size ≡ 2 ^ (6 + t.doublings)
    e = t.is ∙ sym (pow-add 2 6 t.doublings)

pub doubled_twice : (size : ℕ) → TableSize size → TableSize (size * 2)
doubled_twice size t = record { doublings = suc t.doublings; is = ap (λ (x : ℕ). x * 2) t.is ∙ sym (again 64 t.doublings) }

-- ---- the test, by halves
half_of : (size : ℕ) → TableSize size → 64 < size → (k : ℕ) × (size ≡ 64 * 2 ^ k * 2)
half_of size t l = go t.doublings t.is
  where
    go : (k : ℕ) → size ≡ 64 * 2 ^ k → (k : ℕ) × (size ≡ 64 * 2 ^ k * 2)
    go zero e = absurd (omega arith)
    go (suc k) e = (k, e ∙ again 64 k)

pub not_odd : (size : ℕ) → TableSize size → 64 < size → (size % 2 ≡ 0 → ⊥) → ⊥
not_odd size t l n = let (k, e) = half_of size t l in n (omega arith)

pub halved : (size : ℕ) → TableSize size → 64 < size → TableSize (size / 2)
halved size t l = let (k, e) = half_of size t l in record { doublings = k; is = omega arith }

pub of_half : (size : ℕ) → size % 2 ≡ 0 → TableSize (size / 2) → TableSize size
of_half size e t = subst TableSize (let h : size / 2 * 2 ≡ size = omega arith in h) (doubled_twice (size / 2) t)

pub first_size : (size : ℕ) → size ≡ 64 → TableSize size
first_size size e = record { doublings = 0; is = e }

pub last_half : (size : ℕ) → TableSize size → size ≤ 64 → size ≡ 64
last_half size t l = let m = at_least size t in omega arith
