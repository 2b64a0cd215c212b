-- The byte at a place of a slice, and the text from there on.
use Prim.Native.Nat.{ℕ, zero, suc, ◌+◌, ◌-◌, ◌*◌, ◌≤◌, ◌<◌}
use mathlib.Core.Path.{◌≡◌, refl, sym, ap, ◌∙◌, subst}
use mathlib.Core.Bool.{Bool, true, false, cond}
use mathlib.Core.List.{List, [], ◌∷◌}
use lib.ListN.{length, drop, get_or, drop_of_length-le}
use lib.Seq.{drop-cons}
use lib.Dec.{eqb}
use native.Mathlib.Omega.{arith}
use native.Mathlib.Numerals.{add-one}
use borrow.Author.Tests.{eqb-true, eqb-false, eq-eqb, ne_eqb, leb-true, lt-leb}
use Rattle.text_language.specs.Reader.{lead, skip, past, word, beyond}
use Rattle.text_language.specs.Places.{AtSpot, ScanRan}

pub lead_cons : (c : ℕ) (t : List ℕ) (b : Bool) → eqb c 32 ≡ b → lead (c ∷ t) ≡ elim b [ true ↦ lead t | false ↦ c ]
unfolding lead
lead_cons c t b e = ap (λ (x : Bool). elim x as (λ z. ℕ) [ true ↦ lead t | false ↦ c ]) e

pub skip_cons : (c : ℕ) (t : List ℕ) (b : Bool) → eqb c 32 ≡ b → skip (c ∷ t) ≡ elim b [ true ↦ skip t | false ↦ c ∷ t ]
unfolding skip
skip_cons c t b e = ap (λ (x : Bool). elim x as (λ z. List ℕ) [ true ↦ skip t | false ↦ c ∷ t ]) e

pub past_cons : (c : ℕ) (t : List ℕ) (b : Bool) → eqb c 32 ≡ b → past (c ∷ t) ≡ elim b [ true ↦ past t | false ↦ t ]
unfolding past
past_cons c t b e = ap (λ (x : Bool). elim x as (λ z. List ℕ) [ true ↦ past t | false ↦ t ]) e

-- from `from` to i there are only blanks
pub record Skipped (s : List ℕ) (from i : ℕ) : Type 0 where
  pub leads : lead (drop from s) ≡ lead (drop i s)
  pub skips : skip (drop from s) ≡ skip (drop i s)
  pub pasts : past (drop from s) ≡ past (drop i s)
  pub low : from ≤ i
  pub high : i ≤ length s

pub none_skipped : (s : List ℕ) (i : ℕ) → i ≤ length s → Skipped s i i
none_skipped s i h = record { leads = refl; skips = refl; pasts = refl; low = omega arith; high = h }

pub one_skipped : (s : List ℕ) (from i : ℕ) → Skipped s from i → i < length s → get_or s i 0 ≡ 32 → Skipped s from (i + 1)
one_skipped s from i k h e =
    let d = drop-cons s i 0 h in
    let q = eq-eqb (get_or s i 0) 32 e in
    let a = ap (λ (n : ℕ). drop n s) (add-one i) in
    record {
      leads = k.leads ∙ ap lead d ∙ lead_cons (get_or s i 0) (drop (suc i) s) true q ∙ ap lead (sym a);
      skips = k.skips ∙ ap skip d ∙ skip_cons (get_or s i 0) (drop (suc i) s) true q ∙ ap skip (sym a);
      pasts = k.pasts ∙ ap past d ∙ past_cons (get_or s i 0) (drop (suc i) s) true q ∙ ap past (sym a);
      low = let l = k.low in omega arith;
      high = omega arith;
    }

pub spot_byte : (s : List ℕ) (from i : ℕ) → Skipped s from i → i < length s → (get_or s i 0 ≡ 32 → ⊥) → AtSpot s from i (get_or s i 0)
spot_byte s from i k h e =
    let d = drop-cons s i 0 h in
    let q = ne_eqb (get_or s i 0) 32 e in
    record {
      leads = k.leads ∙ ap lead d ∙ lead_cons (get_or s i 0) (drop (suc i) s) false q;
      skips = k.skips ∙ ap skip d ∙ skip_cons (get_or s i 0) (drop (suc i) s) false q ∙ sym d;
      pasts = λ z. k.pasts ∙ ap past d ∙ past_cons (get_or s i 0) (drop (suc i) s) false q;
      low = k.low;
      high = k.high;
      inside = λ z. h;
    }

pub spot_end : (s : List ℕ) (from i : ℕ) → Skipped s from i → length s ≤ i → AtSpot s from (length s) 0
unfolding lead skip
spot_end s from i k h =
    let d = drop_of_length-le s h in
    let e = drop_of_length-le s {i = length s} (omega arith) in
    record {
      leads = k.leads ∙ ap lead d;
      skips = k.skips ∙ ap skip d ∙ sym e;
      pasts = λ z. absurd (z refl);
      low = let l = k.low in let m = k.high in omega arith;
      high = omega arith;
      inside = λ z. absurd (z refl);
    }

-- ---- words

pub record Running (s : List ℕ) (from : ℕ) (p : ℕ → Bool) (cap i left : ℕ) : Type 0 where
  pub rests : beyond p cap (drop from s) ≡ beyond p left (drop i s)
  pub counts : from + length (word p cap (drop from s)) ≡ i + length (word p left (drop i s))
  pub high : i ≤ length s
  pub low : from ≤ i

pub run_start : (s : List ℕ) (from : ℕ) (p : ℕ → Bool) (cap : ℕ) → from ≤ length s → Running s from p cap from cap
run_start s from p cap h = record { rests = refl; counts = refl; high = h; low = omega arith }

pub run_same : {s : List ℕ} {from : ℕ} {p : ℕ → Bool} {cap i j left rest : ℕ} → i ≡ j → left ≡ rest → Running s from p cap i left → Running s from p cap j rest
run_same {s} {from} {p} {cap} {i} {j} {left} {rest} e f k = subst (λ (x : ℕ). Running s from p cap x rest) e (subst (λ (x : ℕ). Running s from p cap i x) f k)

pub beyond_cons : (p : ℕ → Bool) (k c : ℕ) (t : List ℕ) (b : Bool) → p c ≡ b → beyond p (suc k) (c ∷ t) ≡ elim b [ true ↦ beyond p k t | false ↦ c ∷ t ]
unfolding beyond
beyond_cons p k c t b e = ap (λ (x : Bool). elim x as (λ z. List ℕ) [ true ↦ beyond p k t | false ↦ c ∷ t ]) e

pub word_cons : (p : ℕ → Bool) (k c : ℕ) (t : List ℕ) (b : Bool) → p c ≡ b → word p (suc k) (c ∷ t) ≡ elim b [ true ↦ c ∷ word p k t | false ↦ [] ]
unfolding word
word_cons p k c t b e = ap (λ (x : Bool). elim x as (λ z. List ℕ) [ true ↦ c ∷ word p k t | false ↦ [] ]) e

pub run_none : (s : List ℕ) (from : ℕ) (p : ℕ → Bool) (cap i : ℕ) → Running s from p cap i 0 → ScanRan s from p cap i
unfolding word beyond
run_none s from p cap i k = record { rests = k.rests; counts = let z = k.counts in omega arith; high = k.high; low = k.low }

pub run_zero : (s : List ℕ) (from : ℕ) (p : ℕ → Bool) (cap i left : ℕ) → Running s from p cap i left → left ≤ 0 → ScanRan s from p cap i
run_zero s from p cap i left k h = let z : left ≡ 0 = omega arith in run_none s from p cap i (subst (Running s from p cap i) z k)

pub run_end : (s : List ℕ) (from : ℕ) (p : ℕ → Bool) (cap i left : ℕ) → Running s from p cap i left → length s ≤ i → ScanRan s from p cap i
unfolding word beyond
run_end s from p cap i left k h =
    let d = drop_of_length-le s h in
    record { rests = k.rests ∙ ap (beyond p left) d ∙ nil left ∙ sym d; counts = k.counts ∙ ap (λ (w : List ℕ). i + length (word p left w)) d ∙ zeros left; high = k.high; low = k.low }
  where
    nil : (n : ℕ) → beyond p n [] ≡ []
    nil zero = refl
    nil (suc n) = refl

    zeros : (n : ℕ) → i + length (word p n []) ≡ i
    zeros zero = omega arith
    zeros (suc n) = omega arith

pub run_stop : (s : List ℕ) (from : ℕ) (p : ℕ → Bool) (cap i left : ℕ) → Running s from p cap i left → i < length s → p (get_or s i 0) ≡ false → ScanRan s from p cap i
unfolding word beyond
run_stop s from p cap i zero k h e = run_none s from p cap i k
run_stop s from p cap i (suc left) k h e =
    let d = drop-cons s i 0 h in
    let w = ap (word p (suc left)) d ∙ word_cons p left (get_or s i 0) (drop (suc i) s) false e in
    record {
      rests = k.rests ∙ ap (beyond p (suc left)) d ∙ beyond_cons p left (get_or s i 0) (drop (suc i) s) false e ∙ sym d;
      counts = let z = ap length w in let y = k.counts in omega arith;
      high = k.high;
      low = k.low;
    }

pub run_more : (s : List ℕ) (from : ℕ) (p : ℕ → Bool) (cap i left : ℕ) → Running s from p cap i left → 0 < left → i < length s → p (get_or s i 0) ≡ true → Running s from p cap (i + 1) (left - 1)
run_more s from p cap i zero k z h e = absurd (omega arith)
run_more s from p cap i (suc left) k z h e =
    let d = drop-cons s i 0 h in
    let a = ap (λ (n : ℕ). drop n s) (add-one i) in
    let m : left ≡ suc left - 1 = omega arith in
    let w = ap (word p (suc left)) d ∙ word_cons p left (get_or s i 0) (drop (suc i) s) true e in
    subst (Running s from p cap (i + 1)) m
    (record {
      rests = k.rests ∙ ap (beyond p (suc left)) d ∙ beyond_cons p left (get_or s i 0) (drop (suc i) s) true e ∙ ap (beyond p left) (sym a);
      counts = let x = ap length w in let y = k.counts in let v = ap (λ (t : List ℕ). length (word p left t)) a in omega arith;
      high = omega arith;
      low = let l = k.low in omega arith;
    })
