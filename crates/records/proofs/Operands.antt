-- Operands of a body: whole ones give a list, a half one none.
use Prim.Native.Nat.{ℕ, zero, suc, ◌+◌, ◌*◌, ◌/◌, ◌%◌, ◌≤◌, ◌<◌}
use mathlib.Core.Path.{◌≡◌, refl, sym, ap, ◌∙◌}
use mathlib.Core.List.{List, ◌∷◌}
use mathlib.Core.Option.{none, some}
use lib.ListN.{length, get_or}
use native.Mathlib.Omega.{arith}
use Rattle.definitions.specs.Sheet.{big_endian, operands, with_operand}
use Rattle.records.specs.Reading.{part, operand_from, operands_from}
use Rattle.records.proofs.Parts.{part_cons}

-- the two bytes of an operand, and the rest
pub part_two : (s : List ℕ) (at n : ℕ) → at + suc (suc n) ≤ length s → part s at (suc (suc n)) ≡ get_or s at 0 ∷ get_or s (at + 1) 0 ∷ part s (at + 2) n
part_two s at n h =
    let e : at + 1 + 1 ≡ at + 2 = omega arith in
    part_cons s at (suc n) h
    ∙ ap (λ (l : List ℕ). get_or s at 0 ∷ l) (part_cons s (at + 1) n (omega arith) ∙ ap (λ (i : ℕ). get_or s (at + 1) 0 ∷ part s i n) e)

operands_step : (s : List ℕ) (at n : ℕ) → at + suc (suc n) ≤ length s → operands (part s at (suc (suc n))) ≡ with_operand (operand_from s at) (operands (part s (at + 2) n))
unfolding operands
operands_step s at n h =
    ap operands (part_two s at n h)
    ∙ ap (λ (l : List ℕ). with_operand (big_endian l) (operands (part s (at + 2) n))) (sym (part_two s at 0 (omega arith)))

pub operands_odd : (s : List ℕ) (at n : ℕ) → at + n ≤ length s → (n % 2 ≡ 0 → ⊥) → operands (part s at n) ≡ none
unfolding operands
operands_odd s at zero h o = absurd (o refl)
operands_odd s at (suc zero) h o = ap operands (part_cons s at 0 h)
operands_odd s at (suc (suc n)) h o =
    operands_step s at n h ∙ ap (with_operand (operand_from s at)) (operands_odd s (at + 2) n (omega arith) (λ e. o (omega arith)))

pub operands_even : (s : List ℕ) (at n : ℕ) → at + n ≤ length s → n % 2 ≡ 0 → operands (part s at n) ≡ some (operands_from s at (n / 2))
unfolding operands operands_from
operands_even s at zero h e = refl
operands_even s at (suc zero) h e = absurd (omega arith)
operands_even s at (suc (suc n)) h e =
    operands_step s at n h
    ∙ ap (with_operand (operand_from s at)) (operands_even s (at + 2) n (omega arith) (omega arith))
    ∙ ap (λ (k : ℕ). some (operands_from s at k)) half
  where
    half : suc (n / 2) ≡ suc (suc n) / 2
    half = omega arith

pub operands_length : (s : List ℕ) (first n : ℕ) → length (operands_from s first n) ≡ n
unfolding operands_from
operands_length s first zero = refl
operands_length s first (suc n) = ap suc (operands_length s (first + 2) n)

pub operands_get_d : (s : List ℕ) (first n k : ℕ) → k < n → get_or (operands_from s first n) k 0 ≡ operand_from s (first + k * 2)
unfolding operands_from
operands_get_d s first zero k h = absurd (omega arith)
operands_get_d s first (suc n) zero h = let e : first ≡ first + 0 * 2 = omega arith in ap (operand_from s) e
operands_get_d s first (suc n) (suc k) h =
    let e : first + 2 + k * 2 ≡ first + suc k * 2 = omega arith in
    operands_get_d s (first + 2) n k (omega arith) ∙ ap (operand_from s) e
