-- The token of a word: a number's or a name's at its place, or an operator's.
use Prim.Native.Nat.{ℕ, zero, suc, ◌+◌, ◌-◌, ◌≤◌, ◌<◌}
use mathlib.Core.Path.{◌≡◌, refl, sym, ap, ◌∙◌, subst}
use mathlib.Core.Bool.{Bool, true, false, ◌&&◌, ◌||◌, cond}
use mathlib.Core.List.{List, [], ◌∷◌}
use lib.ListN.{length, take, drop, get_or}
use lib.Seq.{drop-cons}
use lib.Dec.{leb, ltb}
use native.Mathlib.Omega.{arith}
use native.Mathlib.Numerals.{add-one}
use borrow.Author.Tests.{lt-ltb, le-ltb, leb-true, leb-false}
use Rattle.text_language.specs.Grammar.{Expr, constant, variable, negated, linked, raised, is_digit, is_letter, is_word}
use Rattle.text_language.specs.Reader.{word, Got, got, bad, atom_of}
use Rattle.text_language.specs.Places.{ScanRan}
use Rattle.text_language.specs.Program.{Token, number, name, negate, join, first_operator, token_of, atom_token, operator_token, token_at, operands}
use Rattle.text_language.proofs.Sound.{word_short, absurd_bool}
use Rattle.text_language.proofs.Atoms.{name_is}

pub place_token : (s : List ℕ) (w : ℕ) → w < first_operator → token_at s w ≡ atom_token (atom_of (drop w s))
unfolding token_at
place_token s w l = ap (λ (b : Bool). cond b (atom_token (atom_of (drop w s))) (operator_token (w - first_operator))) (lt-ltb w first_operator l)

pub kind_token : (s : List ℕ) (w : ℕ) → first_operator ≤ w → token_at s w ≡ operator_token (w - first_operator)
unfolding token_at
kind_token s w l = ap (λ (b : Bool). cond b (atom_token (atom_of (drop w s))) (operator_token (w - first_operator))) (le-ltb w first_operator l)

-- ---- operands

leaf_takes : (g : Got) → 0 ≡ operands (atom_token g)
unfolding atom_token token_of
leaf_takes (got (constant b) d r) = refl
leaf_takes (got (variable w) d r) = refl
leaf_takes (got (negated e) d r) = refl
leaf_takes (got (linked k x e f) d r) = refl
leaf_takes (got (raised e f) d r) = refl
leaf_takes bad = refl

low_takes : (k : ℕ) → k < 2 → 1 ≡ operands (operator_token k)
unfolding operator_token
low_takes zero l = refl
low_takes (suc zero) l = refl
low_takes (suc (suc k)) l = absurd (omega arith)

high_takes : (k : ℕ) → 6 < k → 1 ≡ operands (operator_token k)
unfolding operator_token
high_takes zero l = absurd (omega arith)
high_takes (suc zero) l = absurd (omega arith)
high_takes (suc (suc zero)) l = absurd (omega arith)
high_takes (suc (suc (suc zero))) l = absurd (omega arith)
high_takes (suc (suc (suc (suc zero)))) l = absurd (omega arith)
high_takes (suc (suc (suc (suc (suc zero))))) l = absurd (omega arith)
high_takes (suc (suc (suc (suc (suc (suc zero)))))) l = absurd (omega arith)
high_takes (suc (suc (suc (suc (suc (suc (suc k))))))) l = refl

joining_takes : (k : ℕ) → 2 ≤ k → k ≤ 6 → 2 ≡ operands (operator_token k)
unfolding operator_token
joining_takes zero l m = absurd (omega arith)
joining_takes (suc zero) l m = absurd (omega arith)
joining_takes (suc (suc zero)) l m = refl
joining_takes (suc (suc (suc zero))) l m = refl
joining_takes (suc (suc (suc (suc zero)))) l m = refl
joining_takes (suc (suc (suc (suc (suc zero))))) l m = refl
joining_takes (suc (suc (suc (suc (suc (suc zero)))))) l m = refl
joining_takes (suc (suc (suc (suc (suc (suc (suc k))))))) l m = absurd (omega arith)

module _ (w : ℕ) (s : List ℕ) where
  pub takes_none : w < first_operator → 0 ≡ operands (token_at s w)
  takes_none l = leaf_takes (atom_of (drop w s)) ∙ ap operands (sym (place_token s w l))

  pub takes_low : first_operator ≤ w → w - first_operator < 2 → 1 ≡ operands (token_at s w)
  takes_low l k = low_takes (w - first_operator) k ∙ ap operands (sym (kind_token s w l))

  pub takes_high : first_operator ≤ w → 6 < w - first_operator → 1 ≡ operands (token_at s w)
  takes_high l k = high_takes (w - first_operator) k ∙ ap operands (sym (kind_token s w l))

  pub takes_two : first_operator ≤ w → 2 ≤ w - first_operator → w - first_operator ≤ 6 → 2 ≡ operands (token_at s w)
  takes_two l k m = joining_takes (w - first_operator) k m ∙ ap operands (sym (kind_token s w l))

-- ---- names

and_first : (a b : Bool) → (a && b) ≡ true → a ≡ true
and_first true b e = refl
and_first false b e = absurd_bool e refl

pub letter_above : (c : ℕ) → is_letter c ≡ true → 57 < c
letter_above c e = go (leb 65 c) (leb c 90) (leb 97 c) refl refl refl e
  where
    go : (a b d : Bool) → leb 65 c ≡ a → leb c 90 ≡ b → leb 97 c ≡ d → (a && b || d && leb c 122) ≡ true → 57 < c
    go true b d p q r e = let z = leb-true 65 c p in omega arith
    go false b true p q r e = let z = leb-true 97 c r in omega arith
    go false b false p q r e = absurd_bool e refl

pub letter_no_digit : (c : ℕ) → is_letter c ≡ true → is_digit c ≡ false
letter_no_digit c e = go (leb 48 c) (leb c 57) refl
  where
    go : (a b : Bool) → leb c 57 ≡ b → (a && b) ≡ false
    go a true p = absurd (let z = leb-true c 57 p in let y = letter_above c e in omega arith)
    go true false p = refl
    go false false p = refl

-- past the end there is no letter
pub letter_inside : (s : List ℕ) (at : ℕ) → is_letter (get_or s at 0) ≡ true → at < length s
letter_inside s at e = go s at (letter_above (get_or s at 0) e)
  where
    go : (s : List ℕ) (at : ℕ) → 57 < get_or s at 0 → at < length s
    go [] at h = absurd (omega arith)
    go (c ∷ s) zero h = omega arith
    go (c ∷ s) (suc at) h = let i = go s at h in omega arith

pub past_no_letter : (s : List ℕ) (at : ℕ) → length s ≤ at → false ≡ is_letter (get_or s at 0)
past_no_letter s at l = go (is_letter (get_or s at 0)) refl
  where
    go : (b : Bool) → is_letter (get_or s at 0) ≡ b → false ≡ b
    go true e = absurd (let i = letter_inside s at e in omega arith)
    go false e = refl

-- a word is the front of its text
pub word_take : (p : ℕ → Bool) (k : ℕ) (t : List ℕ) → take (length (word p k t)) t ≡ word p k t
unfolding word
word_take p zero t = refl
word_take p (suc k) [] = refl
word_take p (suc k) (c ∷ t) = go (p c) (word_take p k t)
  where
    go : (b : Bool) → take (length (word p k t)) t ≡ word p k t → take (length {A = ℕ} (elim b [ true ↦ c ∷ word p k t | false ↦ [] ])) (c ∷ t) ≡ elim b [ true ↦ c ∷ word p k t | false ↦ [] ]
    go true h = ap (λ (x : List ℕ). c ∷ x) h
    go false h = refl

module _ (s : List ℕ) (at j : ℕ) (low : at < length s) (l : is_letter (get_or s at 0) ≡ true) (r : ScanRan s (at + 1) is_word 31 j) where
  abbrev typed : List ℕ
  typed = get_or s at 0 ∷ word is_word 31 (drop (at + 1) s)

  pub name_bytes : take (j - at) (drop at s) ≡ typed
  name_bytes =
      let c = r.counts in
      let e : j - at ≡ suc (length (word is_word 31 (drop (at + 1) s))) = omega arith in
      ap (λ (n : ℕ). take n (drop at s)) e
      ∙ ap (take (suc (length (word is_word 31 (drop (at + 1) s))))) (drop-cons s at 0 low ∙ ap (λ (n : ℕ). get_or s at 0 ∷ drop n s) (sym (add-one at)))
      ∙ ap (λ (x : List ℕ). get_or s at 0 ∷ x) (word_take is_word 31 (drop (at + 1) s))

  pub name_token : atom_token (atom_of (drop at s)) ≡ name (take (j - at) (drop at s))
  unfolding atom_token token_of
  name_token = ap atom_token (name_is s at low j (letter_no_digit (get_or s at 0) l) l r) ∙ ap name (sym name_bytes)

  pub name_short : (1 ≤ length (take (j - at) (drop at s))) × (length (take (j - at) (drop at s)) ≤ 32)
  name_short = let e = ap (λ (x : List ℕ). length x) name_bytes in let w = word_short is_word 31 (drop (at + 1) s) in (omega (arith, e), omega (arith, e, w))
