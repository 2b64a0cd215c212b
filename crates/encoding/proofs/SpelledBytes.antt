-- Bytes spelled by operands, up to some number of them.
use Prim.Native.Nat.{ℕ, suc, ◌+◌, ◌≤◌, ◌<◌, min}
use mathlib.Core.Path.{◌≡◌, sym, ap, ◌∙◌, subst}
use mathlib.Core.List.{List, [], ◌∷◌, ◌++◌}
use lib.ListN.{length, get_or, take, set, length-set, length-map, get_or-map}
use lib.Seq.{take_all, take-suc, take-suc-set}
use native.Mathlib.Numerals.{add-one}
use native.Mathlib.Omega.{arith}
use native.Mathlib.Decide.{dec_le}
use Rattle.encoding.specs.Encoding.{lowest_byte, bytes_of}
use Rattle.encoding.specs.Spelling.{SpellsUpTo}

-- the first so many bytes are spelled
pub record SpelledTo (most : ℕ) (operands bytes : List ℕ) (i : ℕ) : Type 0 where
  pub few : i ≤ most
  pub there : i ≤ length operands
  pub size : length bytes ≡ most
  pub is : take i bytes ≡ take i (bytes_of operands)

pub spell_more : (most : ℕ) (operands bytes : List ℕ) (i byte : ℕ) → SpelledTo most operands bytes i → i < most → i < length operands
    → byte ≡ lowest_byte (get_or operands i 0) → SpelledTo most operands (set bytes i byte) (i + 1)
spell_more most operands bytes i byte h few there e = record {
  few = omega arith;
  there = omega arith;
  size = length-set bytes i byte ∙ h.size;
  is = subst (λ (n : ℕ). take n (set bytes i byte) ≡ take n (bytes_of operands)) (sym (add-one i)) one;
}
  where
    one : take (suc i) (set bytes i byte) ≡ take (suc i) (bytes_of operands)
    one =
        let l = h.size in
        take-suc-set bytes i byte (omega arith)
        ∙ (λ j. h.is j ++ e j ∷ [])
        ∙ ap (λ (x : ℕ). take i (bytes_of operands) ++ x ∷ []) (sym (get_or-map lowest_byte operands i 0))
        ∙ sym (take-suc (bytes_of operands) i (lowest_byte 0) (omega (arith, length-map operands lowest_byte)))

pub spelled_whole : (most : ℕ) (operands bytes : List ℕ) (i long : ℕ) → SpelledTo most operands bytes i → i ≤ long → long ≤ i → long ≡ min (length operands) most
    → SpellsUpTo most operands bytes long
spelled_whole most operands bytes i long h k l end = record { few = omega arith; size = h.size; is = ap (λ (n : ℕ). take n bytes) e ∙ h.is ∙ ap (λ (n : ℕ). take n (bytes_of operands)) (sym e) ∙ whole }
  where
    e : long ≡ i
    e = omega arith

    whole : take long (bytes_of operands) ≡ take most (bytes_of operands)
    whole = by (dec_le most (length operands))
      where
        by : Dec (most ≤ length operands) → take long (bytes_of operands) ≡ take most (bytes_of operands)
        by (yes m) = let f : long ≡ most = omega arith in ap (λ (n : ℕ). take n (bytes_of operands)) f
        by (no m) =
            take_all long (bytes_of operands) (omega (arith, length-map operands lowest_byte))
            ∙ sym (take_all most (bytes_of operands) (omega (arith, length-map operands lowest_byte)))
