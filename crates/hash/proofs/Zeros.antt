-- Bytes that are 0 are products alone, since exclusive or with 0 leaves a sum as it is.
use Rattle.std.proofs.Common.{◌≡◌, ℕ, ◌/◌, ◌%◌, ◌^◌, ◌<◌, List, [], ◌∷◌, sym, refl, ap, ◌∙◌, arith}
use lib.Bits.{bit_xor, xor_zero_r}
use Rattle.hash.specs.Fnv.{fnv_from, times_prime, bytes32, bytes64}

pub two_zeros : (h : ℕ) → fnv_from h (0 ∷ 0 ∷ []) ≡ times_prime (times_prime h)
unfolding fnv_from
two_zeros h = ap times_prime (xor_zero_r (times_prime (bit_xor h 0)) ∙ ap times_prime (xor_zero_r h))

-- a number of two bytes, as four
pub two_bytes : (h x : ℕ) → x < 65536 → fnv_from h (bytes32 x) ≡ fnv_from (fnv_from (fnv_from h (0 ∷ 0 ∷ [])) ((x / 256) ∷ [])) ((x % 256) ∷ [])
unfolding fnv_from bytes32
two_bytes h x l =
    let a : x / 2 ^ 24 % 256 ≡ 0 = omega arith in
    let b : x / 2 ^ 16 % 256 ≡ 0 = omega arith in
    let c : x / 2 ^ 8 % 256 ≡ x / 256 = omega arith in
    rw (a, b, c) refl

-- the number 0, as eight bytes
pub eight_zeros : (h : ℕ) → fnv_from h (bytes64 0) ≡ fnv_from (fnv_from (fnv_from (fnv_from h (0 ∷ 0 ∷ [])) (0 ∷ 0 ∷ [])) (0 ∷ 0 ∷ [])) (0 ∷ 0 ∷ [])
unfolding fnv_from bytes32 bytes64
eight_zeros h = refl
