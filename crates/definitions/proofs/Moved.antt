-- A prune moves a formula by at most the dropped count times the threshold.
use Prim.Native.Nat.{ℕ, suc, ◌+◌, ◌*◌, ◌^◌, ◌<◌, ◌≤◌}
use mathlib.Core.Path.{◌≡◌, refl, sym, ap, ◌∙◌, subst}
use mathlib.Core.Bool.{Bool, true, false, cond, false≢true}
use mathlib.Core.List.{List, [], ◌∷◌, map}
use lib.ListN.{length}
use lib.IntN.{ℤ, pos, negsuc}
use lib.Dec.{T, eqb}
use lib.Ieee.{Float, nan, inf, fin, binary64, of_bits, le, lt, eq, up, down}
use lib.Pow.{pow-add, pow_pos}
use native.Mathlib.Omega.{arith}
use native.Mathlib.Nat.{mul-le-mul_right, le_of_lt}
use borrow.Author.Tests.{eqb-true, ltb-true}
use Rattle.definitions.specs.Patterns.{one64}
use Rattle.definitions.specs.Prune.{absolute, filter}
use Rattle.definitions.specs.Formula.{Tree, tree}
use Rattle.definitions.specs.Dyadic.{Fraction, fraction, plus_fraction, opposite_fraction, Dyadic, dyadic, plus}
use Rattle.definitions.specs.Value.{fraction_bits, signed, number, Reading, sum_of, value_of}
use Rattle.definitions.specs.Chain.{terms, is_add, chain_of, below_threshold, dropped, kept}
use Rattle.definitions.specs.Promise.{Balanced}
use Rattle.definitions.specs.Moved.{AtMost, Below, times_threshold, Moved, DroppedCountBounds}
use Rattle.definitions.proofs.Deciding.{both}

-- a sum of `count` numbers, each of magnitude below the threshold
record Bounded (x : Dyadic) (t : Float) (count : ℕ) : Type 0 where
  sum : Fraction
  is : x ≡ dyadic sum
  upper : AtMost sum (times_threshold count t)
  lower : AtMost (opposite_fraction sum) (times_threshold count t)
  strict : 0 < count → Below sum (times_threshold count t) × Below (opposite_fraction sum) (times_threshold count t)

none_bounded : (t : Float) → Bounded (dyadic (fraction 0 0 0)) t 0
none_bounded nan = record { sum = fraction 0 0 0; is = refl; upper = omega arith; lower = omega arith; strict = λ h. absurd (omega arith) }
none_bounded (inf s) = record { sum = fraction 0 0 0; is = refl; upper = omega arith; lower = omega arith; strict = λ h. absurd (omega arith) }
none_bounded (fin true m e) = record { sum = fraction 0 0 0; is = refl; upper = omega arith; lower = omega arith; strict = λ h. absurd (omega arith) }
none_bounded (fin false m e) = record { sum = fraction 0 0 0; is = refl; upper = omega arith; lower = omega arith; strict = λ h. absurd (omega arith) }

-- p/B - n/B is below M/C, and q/A - k/A at most N * M/C
one_more : (p n q k M N A B C : ℕ) → 0 < A → p * C < M * B + n * C → q * C + 0 * A ≤ N * M * A + k * C
    → (p * A + q * B) * C + 0 * (B * A) < suc N * M * (B * A) + (n * A + k * B) * C
one_more p n q k M N A B C a h g = omega (arith, mul-le-mul_right A h, mul-le-mul_right B g)

down_power : (e : ℤ) → down e ≡ 2 ^ fraction_bits e
down_power (pos k) = refl
down_power (negsuc k) = refl

-- a number over B whose magnitude is below M/C
abbrev Under : ℕ → ℕ → ℕ → Fraction → Type 0
Under M B C x = (x.positive * C < M * B + x.negative * C) × (x.negative * C < M * B + x.positive * C)

signed_under : (s : Bool) (a k M B C : ℕ) → a * C < M * B → Under M B C (signed s a k)
signed_under true a k M B C h = (omega arith, omega arith)
signed_under false a k M B C h = (omega arith, omega arith)

-- the sum of a number below the threshold and one of at most `count` times the threshold is below one time more
plus_below : (x a : Fraction) (M N k : ℕ) → x.positive * 2 ^ k < M * 2 ^ x.bits + x.negative * 2 ^ k → AtMost a (fraction (N * M) 0 k)
    → Below (plus_fraction x a) (fraction (suc N * M) 0 k)
plus_below x a M N k h g =
    rw (pow-add 2 x.bits a.bits)
    (one_more x.positive x.negative a.positive a.negative M N (2 ^ a.bits) (2 ^ x.bits) (2 ^ k) (pow_pos a.bits) h g)

-- one number more
fraction_more : (v : Fraction) (n : ℕ) (d : ℤ) (x : Dyadic) (count : ℕ) → Under (n * up d) (2 ^ v.bits) (2 ^ fraction_bits d) v → Bounded x (fin false n d) count
    → Bounded (plus (dyadic v) x) (fin false n d) (suc count)
unfolding plus
fraction_more v n d x count u b =
    let over = plus_below v b.sum (n * up d) count (fraction_bits d) u.0 b.upper in
    let under = plus_below (opposite_fraction v) (opposite_fraction b.sum) (n * up d) count (fraction_bits d) u.1 b.lower in
    record { sum = plus_fraction v b.sum; is = ap (plus (dyadic v)) b.is; upper = le_of_lt over; lower = le_of_lt under; strict = λ h. (over, under) }

signed_bits : (s : Bool) (a k : ℕ) → (signed s a k).bits ≡ k
signed_bits true a k = refl
signed_bits false a k = refl

-- a constant below the threshold
constant_more : (v t : Float) (x : Dyadic) (count : ℕ) → T (le t one64) → lt (absolute v) t ≡ true → Bounded x t count → Bounded (plus (number v) x) t (suc count)
unfolding lt le eq number
constant_more nan t x count h e b = absurd (false≢true e)
constant_more (inf s) nan x count h e b = absurd (false≢true e)
constant_more (inf s) (inf q) x count h e b = absurd (false≢true e)
constant_more (inf s) (fin q n d) x count h e b = absurd (false≢true e)
constant_more (fin s m k) nan x count h e b = absurd (false≢true e)
constant_more (fin s m k) (inf true) x count h e b = absurd (false≢true e)
constant_more (fin s m k) (inf false) x count h e b = absurd h
constant_more (fin s m k) (fin true n d) x count h e b = absurd (false≢true e)
constant_more (fin s m k) (fin false n d) x count h e b =
    let B = 2 ^ (signed s (m * up k) (fraction_bits k)).bits in
    let is : down k ≡ B = down_power k ∙ ap (λ (j : ℕ). 2 ^ j) (sym (signed_bits s (m * up k) (fraction_bits k))) in
    let low : m * up k * down d < n * up d * down k = ltb-true _ _ e in
    let l : m * up k * 2 ^ fraction_bits d < n * up d * B = subst (λ (j : ℕ). m * up k * 2 ^ fraction_bits d < n * up d * j) is (subst (λ (j : ℕ). m * up k * j < n * up d * down k) (down_power d) low) in
    fraction_more (signed s (m * up k) (fraction_bits k)) n d x count (signed_under s (m * up k) (fraction_bits k) (n * up d) B (2 ^ fraction_bits d) l) b

-- a dropped term
term_more : (u : Tree) (t : Float) (r : Reading) (x : Dyadic) (count : ℕ) → T (le t one64) → below_threshold t u ≡ true → Bounded x t count
    → Bounded (plus (value_of r u) x) t (suc count)
unfolding below_threshold value_of
term_more (tree k p f c) t r x count h e b =
    let q = both (eqb k 1) (lt (absolute (of_bits binary64 p)) t) e in
    subst (λ (j : ℕ). Bounded (plus (value_of r (tree j p f c)) x) t (suc count)) (sym (eqb-true k 1 q.0)) (constant_more (of_bits binary64 p) t x count h q.1 b)

dropped_bounded : (t : Float) (r : Reading) → T (le t one64) → (ts : List Tree)
    → Bounded (sum_of (map (value_of r) (filter (below_threshold t) ts))) t (length (filter (below_threshold t) ts))
dropped_bounded t r h [] = none_bounded t
dropped_bounded t r h (u ∷ ts) = go (below_threshold t u) refl (dropped_bounded t r h ts)
  where
    D : List Tree
    D = filter (below_threshold t) ts

    go : (b : Bool) → below_threshold t u ≡ b → Bounded (sum_of (map (value_of r) D)) t (length D)
        → Bounded (sum_of (map (value_of r) (cond b (u ∷ D) D))) t (length (cond b (u ∷ D) D))
    go true e i = term_more u t r (sum_of (map (value_of r) D)) (length D) h e i
    go false e i = i

-- the count is the number of dropped terms; without a chain nothing is dropped
count_is : (s : Tree) (t : Float) (k d : ℕ) (b : Bool) → is_add s ≡ b → cond b ((k ≡ length (kept t s)) × (d ≡ length (dropped t s))) ((k ≡ 1) × (d ≡ 0)) → d ≡ length (dropped t s)
count_is s t k d true e h = h.1
count_is s t k d false e h = h.1 ∙ ap (λ c. length (filter (below_threshold t) (cond c (terms s) []))) (sym e)

pub dropped_count_bounds : DroppedCountBounds
dropped_count_bounds old s u t k d h b r =
    let c = subst (λ (n : ℕ). Bounded (sum_of (map (value_of r) (dropped t s))) t n) (sym (count_is s t k d (is_add s) refl b.counts)) (dropped_bounded t r h (chain_of s)) in
    record { difference = c.sum; is = b.value r ∙ ap (plus (value_of r u)) c.is; upper = c.upper; lower = c.lower; strict = c.strict }
