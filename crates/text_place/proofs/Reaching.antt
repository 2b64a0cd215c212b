-- Bytes one after another.
use Prim.Native.Nat.{ℕ, zero, suc, ◌+◌, ◌≤◌, ◌<◌}
use mathlib.Core.Path.{◌≡◌, refl, sym, ap, ◌∙◌, subst}
use mathlib.Core.Bool.{Bool, true, false, cond, false≢true}
use mathlib.Core.List.{List, [], ◌∷◌, ◌++◌}
use lib.ListN.{length, take, get_or}
use lib.Seq.{take-suc}
use lib.Dec.{leb, eqb}
use native.Mathlib.Omega.{arith}
use native.Mathlib.Numerals.{add-one}
use Rattle.text_language.specs.Grammar.{is_digit, is_letter, is_word, is_hex}
use Rattle.text_language.specs.Scan.{joins}
use Rattle.text_place.specs.declared.ScanProgress.{ScanProgress}
use Rattle.text_place.specs.declared.ScanProgress.TheVariants.{Wanted, Digits, Name, Bits, Ended}
use Rattle.std.specs.Prelude.{Option, Some, None}
use Rattle.text_place.specs.Progress.{most_digits, longest_name, bits_digits, open_in, closed, byte_after, longer, advance, reach}
use Rattle.text_place.specs.Stopping.{begun, StopsAt}

pub stays_stopped : (v : List ℕ) → reach None v ≡ None
unfolding reach
stays_stopped [] = refl
stays_stopped (c ∷ v) = refl

pub reach_append : (p : Option ScanProgress) (u v : List ℕ) → reach p (u ++ v) ≡ reach (reach p u) v
unfolding reach
reach_append p [] v = refl
reach_append None (c ∷ u) v = sym (stays_stopped v)
reach_append (Some p) (c ∷ u) v = reach_append (advance p c) u v

abbrev is_on : Option ScanProgress → Bool
is_on (Some p) = true
is_on None = false

pub on_not_stop : (p : ScanProgress) → Some p ≡ None → ⊥
on_not_stop p e = false≢true (sym (ap is_on e))

-- ---- the open brackets

-- a step has at most so many open brackets
abbrev AtMost : ℕ → Option ScanProgress → Type 0
AtMost n (Some p) = open_in p ≤ n
AtMost n None = Unit {0}

either : (n : ℕ) (b : Bool) (x y : Option ScanProgress) → AtMost n x → AtMost n y → AtMost n (cond b x y)
either n true x y h k = h
either n false x y h k = k

closed_few : (b : ℕ) → AtMost (suc b) (closed b)
closed_few zero = tt
closed_few (suc b) = omega arith

after_few : (b c : ℕ) → AtMost (suc b) (byte_after b c)
unfolding byte_after
after_few b c = either _ (eqb c 32) _ _ (omega arith) (either _ (joins c) _ _ (omega arith) (either _ (eqb c 41) _ _ (closed_few b) tt))

advance_few : (p : ScanProgress) (c : ℕ) → AtMost (suc (open_in p)) (advance p c)
unfolding advance
advance_few (Wanted b) c =
    either _ (eqb c 32) _ _ (omega arith) (either _ (eqb c 45) _ _ (omega arith) (either _ (eqb c 40) _ _ (omega arith)
    (either _ (is_digit c) _ _ (omega arith) (either _ (is_letter c) _ _ (omega arith) (either _ (eqb c 35) _ _ (omega arith) tt)))))
advance_few (Digits l b) c = either _ (longer (is_digit c) l most_digits) _ _ (omega arith) (after_few b c)
advance_few (Name l b) c = either _ (longer (is_word c) l longest_name) _ _ (omega arith) (after_few b c)
advance_few (Bits l b) c = either _ (leb bits_digits l) _ _ (after_few b c) (either _ (is_hex c) _ _ (omega arith) tt)
advance_few (Ended b) c = after_few b c

-- ---- the loop

pub record Begun (s : List ℕ) (p : ScanProgress) (i : ℕ) : Type 0 where
  pub is : begun (take i s) ≡ Some p
  pub within : i ≤ length s
  pub few : open_in p ≤ i

pub starts : (s : List ℕ) → Begun s (Wanted 0) 0
unfolding reach
starts s = record { is = refl; within = omega arith; few = omega arith }

module _ (s : List ℕ) (p : ScanProgress) (i : ℕ) (h : Begun s p i) (l : i < length s) (r : Option ScanProgress) (e : r ≡ advance p (get_or s i 0)) where
  one_more : begun (take (suc i) s) ≡ r
  unfolding reach
  one_more =
      ap begun (take-suc s i 0 l) ∙ reach_append (Some (Wanted 0)) (take i s) (get_or s i 0 ∷ [])
      ∙ ap (λ (x : Option ScanProgress). reach x (get_or s i 0 ∷ [])) h.is ∙ sym e

  pub goes_on : (q : ScanProgress) → r ≡ Some q → Begun s q (i + 1)
  goes_on q f = record {
    is = ap (λ (k : ℕ). begun (take k s)) (add-one i) ∙ one_more ∙ f;
    within = omega arith;
    few = let o = h.few in let m : open_in q ≤ suc (open_in p) = subst (AtMost (suc (open_in p))) (sym e ∙ f) (advance_few p (get_or s i 0)) in omega arith;
  }

  pub stops : r ≡ None → StopsAt s i
  stops f = record { within = h.within; before = λ z. on_not_stop p (sym h.is ∙ z); there = λ _. one_more ∙ f }

pub ends : (s : List ℕ) (p : ScanProgress) (i : ℕ) → Begun s p i → length s ≤ i → StopsAt s (length s)
ends s p i h l =
    let w = h.within in
    let e : i ≡ length s = omega arith in
    subst (StopsAt s) e (record { within = w; before = λ z. on_not_stop p (sym h.is ∙ z); there = λ m. absurd (omega arith) })
