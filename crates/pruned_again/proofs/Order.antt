-- Order among magnitudes and thresholds.
use Prim.Native.Nat.{ℕ, ◌*◌, ◌≤◌}
use mathlib.Core.Path.{◌≡◌, refl, sym, ap, ◌∙◌, subst}
use mathlib.Core.Bool.{Bool, true, false, ◌||◌, ◌&&◌, true≢false}
use native.Mathlib.Omega.{arith}
use native.Mathlib.Nat.{eq-or-lt_of_le, mod-eq_of_lt}
use mathlib.Core.Logic.{inl, inr}
use borrow.Author.Tests.{ltb-true, ltb-false, eqb-true}
use lib.Dec.{T, eqb, ltb, lt→ltb, eqb_refl}
use lib.Ieee.{Float, nan, inf, fin, binary64, of_bits, le, lt, up, down, is_nan}
use lib.Ieee.Bits.{nan_bits_is, nan_bits_above}
use lib.Ieee.Fits.{down_pos}
use lib.Ieee.Positive.{through}
use Rattle.definitions.proofs.Prune.{Clear}

-- order among magnitudes
le_of : (a b : ℕ) → T (ltb a b || (eqb a b && true)) → a ≤ b
le_of a b t = go (ltb a b) (eqb a b) refl refl t
  where
    go : (x y : Bool) → ltb a b ≡ x → eqb a b ≡ y → T (x || (y && true)) → a ≤ b
    go true y e f t = omega (arith, ltb-true a b e)
    go false true e f t = omega (arith, eqb-true a b f)
    go false false e f t = absurd t

of_le : (a b : ℕ) → a ≤ b → T (ltb a b || (eqb a b && true))
of_le a b h = elim (eq-or-lt_of_le h) [ inl p ↦ go (ltb a b) (eqb a b) (subst (λ x. T (eqb a x)) p (eqb_refl a)) | inr q ↦ left (ltb a b) (lt→ltb a b q) ]
  where
    go : (x y : Bool) → T y → T (x || (y && true))
    go true y t = tt
    go false true t = tt
    go false false t = absurd t

    left : (x : Bool) → T x → T (x || (eqb a b && true))
    left true t = tt
    left false t = absurd t

pub le_up : (t u v : Float) → Clear t → Clear u → Clear v → T (le t u) → T (le u v) → T (le t v)
unfolding le lt lib.Ieee.eq
le_up nan u v a b c p q = p
le_up (inf true) u v a b c p q = absurd (true≢false a)
le_up (inf false) nan v a b c p q = absurd p
le_up (inf false) (inf true) v a b c p q = absurd p
le_up (inf false) (inf false) v a b c p q = q
le_up (inf false) (fin true m e) v a b c p q = absurd p
le_up (inf false) (fin false m e) v a b c p q = absurd p
le_up (fin true m e) u v a b c p q = absurd (true≢false a)
le_up (fin false m e) nan v a b c p q = absurd p
le_up (fin false m e) (inf true) v a b c p q = absurd p
le_up (fin false m e) (inf false) nan a b c p q = absurd q
le_up (fin false m e) (inf false) (inf true) a b c p q = absurd q
le_up (fin false m e) (inf false) (inf false) a b c p q = tt
le_up (fin false m e) (inf false) (fin true k g) a b c p q = absurd (true≢false c)
le_up (fin false m e) (inf false) (fin false k g) a b c p q = absurd q
le_up (fin false m e) (fin true n d) v a b c p q = absurd (true≢false b)
le_up (fin false m e) (fin false n d) nan a b c p q = absurd q
le_up (fin false m e) (fin false n d) (inf true) a b c p q = absurd (true≢false c)
le_up (fin false m e) (fin false n d) (inf false) a b c p q = tt
le_up (fin false m e) (fin false n d) (fin true k g) a b c p q = absurd (true≢false c)
le_up (fin false m e) (fin false n d) (fin false k g) a b c p q =
    of_le (m * up e * down g) (k * up g * down e)
    (through (m * up e) (n * up d) (k * up g) (down e) (down d) (down g) (down_pos d) (le_of (m * up e * down d) (n * up d * down e) p) (le_of (n * up d * down g) (k * up g * down d) q))

pub le_refl : (t : Float) → Clear t → is_nan t ≡ false → T (le t t)
unfolding le lt lib.Ieee.eq is_nan
le_refl nan a n = absurd (true≢false n)
le_refl (inf true) a n = absurd (true≢false a)
le_refl (inf false) a n = tt
le_refl (fin true m e) a n = absurd (true≢false a)
le_refl (fin false m e) a n = of_le (m * up e * down e) (m * up e * down e) (omega arith)

-- a threshold that is not below another
pub not_below : (t u : Float) → Clear t → Clear u → is_nan t ≡ false → is_nan u ≡ false → lt u t ≡ false → T (le t u)
unfolding le lt lib.Ieee.eq is_nan
not_below nan u a b p q e = absurd (true≢false p)
not_below (inf true) u a b p q e = absurd (true≢false a)
not_below (inf false) nan a b p q e = absurd (true≢false q)
not_below (inf false) (inf true) a b p q e = absurd (true≢false b)
not_below (inf false) (inf false) a b p q e = tt
not_below (inf false) (fin s m g) a b p q e = absurd (true≢false e)
not_below (fin true m g) u a b p q e = absurd (true≢false a)
not_below (fin false m g) nan a b p q e = absurd (true≢false q)
not_below (fin false m g) (inf true) a b p q e = absurd (true≢false b)
not_below (fin false m g) (inf false) a b p q e = tt
not_below (fin false m g) (fin true n h) a b p q e = absurd (true≢false b)
not_below (fin false m g) (fin false n h) a b p q e = of_le (m * up g * down h) (n * up h * down g) (ltb-false (n * up h * down g) (m * up g * down h) e)

-- and back
pub le_not_lt : (t u : Float) → Clear t → Clear u → T (le t u) → lt u t ≡ false
unfolding le lt lib.Ieee.eq
le_not_lt nan u a b p = absurd p
le_not_lt (inf true) u a b p = absurd (true≢false a)
le_not_lt (inf false) nan a b p = absurd p
le_not_lt (inf false) (inf true) a b p = absurd p
le_not_lt (inf false) (inf false) a b p = refl
le_not_lt (inf false) (fin s m g) a b p = absurd p
le_not_lt (fin true m g) u a b p = absurd (true≢false a)
le_not_lt (fin false m g) nan a b p = absurd p
le_not_lt (fin false m g) (inf true) a b p = absurd (true≢false b)
le_not_lt (fin false m g) (inf false) a b p = refl
le_not_lt (fin false m g) (fin true n h) a b p = absurd (true≢false b)
le_not_lt (fin false m g) (fin false n h) a b p = go (ltb (n * up h * down g) (m * up g * down h)) refl
  where
    go : (c : Bool) → ltb (n * up h * down g) (m * up g * down h) ≡ c → c ≡ false
    go true e = absurd (omega (arith, ltb-true (n * up h * down g) (m * up g * down h) e, le_of (m * up g * down h) (n * up h * down g) p))
    go false e = refl

pub no_nan : (b : ℕ) → b ≤ 0x7FF0000000000000 → is_nan (of_bits binary64 b) ≡ false
no_nan b h = sym (nan_bits_is binary64 b) ∙ nan_bits_above binary64 b ∙ ap (ltb 0x7FF0000000000000) (mod-eq_of_lt {n = b} {m = 0x8000000000000000} (omega arith)) ∙ go (ltb 0x7FF0000000000000 b) refl
  where
    go : (c : Bool) → ltb 0x7FF0000000000000 b ≡ c → c ≡ false
    go true e = absurd (omega (arith, ltb-true 0x7FF0000000000000 b e))
    go false e = refl
