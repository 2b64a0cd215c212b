-- Two lists of bytes with the same words are the same.
use Prim.Native.Nat.{ℕ, zero, suc, ◌+◌, ◌-◌, ◌*◌, ◌≤◌, ◌<◌}
use mathlib.Core.Path.{◌≡◌, sym, ap, ◌∙◌, subst}
use mathlib.Core.Bool.{false}
use mathlib.Core.List.{List}
use lib.ListN.{length, get_or}
use lib.Seq.{ext_get_or}
use lib.Dec.{eqb}
use native.Mathlib.Nat.{add-zero}
use native.Mathlib.Omega.{arith}
use native.Mathlib.Decide.{dec_lt}
use Rattle.definitions.specs.Names.{entry_bytes}
use Rattle.definitions.specs.Says.{Says}
use Rattle.name_entries.specs.Entry.{byte_values, word_bytes, name_words, half_word_bytes, half_word_values, half_word_at, word_at, IsWord}
use Rattle.definitions.proofs.Deciding.{says_no, says_map, says_eq}

-- the lowest digit of a number, and the rest
digit : (a b x y : ℕ) → a < byte_values → b < byte_values → a + byte_values * x ≡ b + byte_values * y → (a ≡ b) × (x ≡ y)
digit a b x y ha hb e = omega arith

cases4 : (P : ℕ → Type 0) → P 0 → P 1 → P 2 → P 3 → (k : ℕ) → k < half_word_bytes → P k
cases4 P p0 p1 p2 p3 zero h = p0
cases4 P p0 p1 p2 p3 (suc zero) h = p1
cases4 P p0 p1 p2 p3 (suc (suc zero)) h = p2
cases4 P p0 p1 p2 p3 (suc (suc (suc zero))) h = p3
cases4 P p0 p1 p2 p3 (suc (suc (suc (suc k)))) h = absurd (omega arith)

-- every element is a byte
abbrev pub Bytes : List ℕ → Type 0
Bytes l = (i : ℕ) → get_or l i 0 < byte_values

-- the elements agree from 1 on, below a place
abbrev pub Agree : List ℕ → List ℕ → ℕ → Type 0
Agree a b n = (j : ℕ) → 1 ≤ j → j < n → get_or a j 0 ≡ get_or b j 0

half_small : (l : List ℕ) → Bytes l → (i : ℕ) → half_word_at l i < half_word_values
half_small l h i = omega (arith, h i, h (i + 1), h (i + 2), h (i + 3))

halves : (a b x y : ℕ) → a < half_word_values → b < half_word_values → a + half_word_values * x ≡ b + half_word_values * y → (a ≡ b) × (x ≡ y)
halves a b x y ha hb e = omega arith

module _ (a b : List ℕ) where
  same_half : Bytes a → Bytes b → (i : ℕ) → half_word_at a i ≡ half_word_at b i → (k : ℕ) → k < half_word_bytes → get_or a (i + k) 0 ≡ get_or b (i + k) 0
  same_half ha hb i e =
      let d0 = digit _ _ _ _ (ha i) (hb i) e in
      let d1 = digit _ _ _ _ (ha (i + 1)) (hb (i + 1)) d0.1 in
      let d2 = digit _ _ _ _ (ha (i + 2)) (hb (i + 2)) d1.1 in
      cases4 (λ (k : ℕ). get_or a (i + k) 0 ≡ get_or b (i + k) 0) (rw add-zero d0.0) d1.0 d2.0 d2.1

  same_word : Bytes a → Bytes b → (i : ℕ) → word_at a i ≡ word_at b i → (k : ℕ) → k < word_bytes → get_or a (i + k) 0 ≡ get_or b (i + k) 0
  same_word ha hb i e k l = go (dec_lt k half_word_bytes)
    where
      both : (half_word_at a i ≡ half_word_at b i) × (half_word_at a (i + half_word_bytes) ≡ half_word_at b (i + half_word_bytes))
      both = halves (half_word_at a i) (half_word_at b i) (half_word_at a (i + half_word_bytes)) (half_word_at b (i + half_word_bytes)) (half_small a ha i) (half_small b hb i) e

      go : Dec (k < half_word_bytes) → get_or a (i + k) 0 ≡ get_or b (i + k) 0
      go (yes m) = same_half ha hb i both.0 k m
      go (no m) =
          let at : i + half_word_bytes + (k - half_word_bytes) ≡ i + k = omega arith in
          subst (λ (x : ℕ). get_or a x 0 ≡ get_or b x 0) at (same_half ha hb (i + half_word_bytes) both.1 (k - half_word_bytes) (omega arith))

  pub word_more : Bytes a → Bytes b → (k r s : ℕ) → Agree a b (k * word_bytes + 1) → IsWord a (k * word_bytes + 1) r → IsWord b (k * word_bytes + 1) s → r ≡ s → Agree a b ((k + 1) * word_bytes + 1)
  word_more ha hb k r s h wa wb e j l m = go (dec_lt j (k * word_bytes + 1))
    where
      go : Dec (j < k * word_bytes + 1) → get_or a j 0 ≡ get_or b j 0
      go (yes n) = h j l n
      go (no n) =
          let at : k * word_bytes + 1 + (j - (k * word_bytes + 1)) ≡ j = omega arith in
          subst (λ (x : ℕ). get_or a x 0 ≡ get_or b x 0) at
          (same_word ha hb (k * word_bytes + 1) (sym wa.is ∙ e ∙ wb.is) (j - (k * word_bytes + 1)) (omega arith))

  pub word_other : (i r s : ℕ) → IsWord a i r → IsWord b i s → (r ≡ s → ⊥) → Says false (a ≡ b)
  word_other i r s wa wb n = says_no (λ e. n (wa.is ∙ ap (λ (l : List ℕ). word_at l i) e ∙ sym wb.is))

  pub words_agree : length a ≡ entry_bytes → length b ≡ entry_bytes → (k : ℕ) → name_words ≤ k → Agree a b (k * word_bytes + 1) → Says (eqb (get_or a 0 0) (get_or b 0 0)) (a ≡ b)
  words_agree la lb k four h = says_map _ all (λ e. ap (λ (l : List ℕ). get_or l 0 0) e) (says_eq _ _)
    where
      each : get_or a 0 0 ≡ get_or b 0 0 → (i : ℕ) → i < length a → get_or a i 0 ≡ get_or b i 0
      each e zero l = e
      each e (suc i) l = h (suc i) (omega arith) (omega arith)

      all : get_or a 0 0 ≡ get_or b 0 0 → a ≡ b
      all e = ext_get_or 0 a b (la ∙ sym lb) (each e)
