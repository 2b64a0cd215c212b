-- A whole number of 32 bits is no NaN.
use Prim.Native.Nat.{ℕ, ◌^◌, ◌<◌}
use mathlib.Core.Bool.{not}
use lib.Dec.{T, le→leb}
use lib.IntN.{pos}
use lib.Ieee.{Float, nan, inf, fin, binary64, of_int, is_nan, in_float, in_unsigned}
use lib.Ieee.Back.{unsigned_back}
use native.Mathlib.Omega.{arith}

finite : (x : Float) → T (in_unsigned binary64 64 x) → T (not (is_nan x))
unfolding is_nan in_unsigned
finite nan t = t
finite (inf s) t = tt
finite (fin s m e) t = tt

pub whole_finite : (n : ℕ) → n < 4294967296 → T (not (is_nan (of_int binary64 (pos n))))
unfolding in_float
whole_finite n l = finite (of_int binary64 (pos n)) (unsigned_back binary64 64 n (le→leb n (2 ^ 53) (omega arith)) (omega arith)).0
