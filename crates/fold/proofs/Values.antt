-- Laws on patterns and values that the proofs beside this file cite. Assumes nothing.
use mathlib.Core.Path.{◌≡◌, refl, sym}
use mathlib.Core.Bool.{Bool, true, false, not, cond}
use Prim.Native.Nat.{ℕ, zero, suc, ◌%◌, ◌/◌, ◌+◌}
use native.Mathlib.Nat.{mod-lt, mod-mod, mod-mod_of_dvd, dvd-mul_right}
use borrow.Author.Tests.{lt-leb}
use lib.Dec.{T, leb, eqb, lit<}
use lib.IntN.{pos}
use lib.Ieee.{Float, nan, inf, fin, Format, binary64, of_bits, of_fields, odd, hid, ones, low, prec, lt, neg, nan_bits}
use Rattle.fold.specs.Fold.{finite, magnitude, one}

pub zero_is : of_bits binary64 0 ≡ fin false 0 (pos 0)
unfolding of_bits
zero_is = refl

pub one_is : of_bits binary64 0x3ff0_0000_0000_0000 ≡ one
unfolding of_bits
one_is = refl

pub infinity_is : of_bits binary64 0x7ff0_0000_0000_0000 ≡ inf false
unfolding of_bits
infinity_is = refl

pub infinity_fine : T (not (nan_bits binary64 0x7ff0_0000_0000_0000))
unfolding nan_bits
infinity_fine = tt

-- below the infinity: finite exactly where above the other one
pub below_is : (x : Float) → lt x (inf false) ≡ true → lt (neg (inf false)) x ≡ finite x
unfolding lt neg
below_is nan h = refl
below_is (inf true) h = refl
below_is (inf false) h = sym h
below_is (fin s m e) h = refl

pub not_below_is : (x : Float) → lt x (inf false) ≡ false → false ≡ finite x
unfolding lt
not_below_is nan h = refl
not_below_is (inf true) h = refl
not_below_is (inf false) h = refl
not_below_is (fin s m e) h = sym h

-- the sign's bit off is the magnitude
odd_mag : (d : ℕ) (s : Bool) (q k l : ℕ) → odd d false q k l ≡ magnitude (odd d s q k l)
unfolding odd
odd_mag d s zero k l = refl
odd_mag d s (suc q) k l = refl

cond_mag : (b : Bool) (x x' y y' : Float) → x' ≡ magnitude x → y' ≡ magnitude y → cond b x' y' ≡ magnitude (cond b x y)
cond_mag true x x' y y' p q = p
cond_mag false x x' y y' p q = q

inf_mag : (s : Bool) → inf false ≡ magnitude (inf s)
inf_mag s = refl

nan_mag : nan ≡ magnitude nan
nan_mag = refl

fields_mag : (f : Format) (s : Bool) (x t : ℕ) → of_fields f false x t ≡ magnitude (of_fields f s x t)
unfolding of_fields
fields_mag f s zero t = odd_mag (prec f) s t 0 (low f)
fields_mag f s (suc x) t =
    cond_mag (eqb (suc x) (ones f)) (cond (eqb t 0) (inf s) nan) (cond (eqb t 0) (inf false) nan) _ _ (cond_mag (eqb t 0) (inf s) (inf false) nan nan (inf_mag s) nan_mag) (odd_mag (prec f) s (hid f + t) x (low f))

pub magnitude_is : (b : ℕ) → of_bits binary64 (b % 0x8000_0000_0000_0000) ≡ magnitude (of_bits binary64 b)
unfolding of_bits
magnitude_is b =
    let w : ℕ = 0x8000_0000_0000_0000 in
    let h : ℕ = 0x10_0000_0000_0000 in
    simp (mod-mod b w, mod-mod_of_dvd h {b = w} b (dvd-mul_right h 2048), lt-leb w (b % w) (mod-lt b (lit< tt)))
    (fields_mag binary64 (leb w b) (b % w / h) (b % h))
