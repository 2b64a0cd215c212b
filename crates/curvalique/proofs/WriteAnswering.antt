-- From a write's cases to what it says in numbers.
use Prim.Native.Nat.{ℕ, zero, suc, ◌<◌}
use mathlib.Core.Path.{◌≡◌, refl, subst}
use mathlib.Core.List.{List}
use native.Mathlib.Omega.{arith}
use Rattle.writer.specs.Writing.{Writes, unsound, unknown, textless, too_long, written}
use Rattle.writer.specs.Answers.{WriteAnswer, Length, Refused}
use Rattle.outputs.specs.Calls.{OutputsStay}
use Rattle.curvalique.specs.Writing.{length_unless_refused}
use Rattle.text.specs.Memory.{ControllerMemory}

module _ {m : ControllerMemory} {id : ℕ} {buffer : List ℕ} where
  -- no refusal has the number 0
  refusal_number : {a : WriteAnswer} {buffer' : List ℕ} {number : ℕ} → Writes m id buffer a buffer' → a ≡ Refused number → number ≡ 0 → ⊥
  refusal_number {number = number} (unsound n) e z = let q : 20 ≡ number = cc in omega arith
  refusal_number {number = number} (unknown h l) e z = let q : 4 ≡ number = cc in omega arith
  refusal_number {number = number} (textless h l n) e z = let q : 13 ≡ number = cc in omega arith
  refusal_number {number = number} (too_long h l w n) e z = let q : 14 ≡ number = cc in omega arith
  refusal_number (written h l w n b) e z = let q : ◌≡◌ {A = ℕ} 0 1 = cc in omega arith

  pub write_answered : {a : WriteAnswer} {buffer' : List ℕ} (length : ℕ) (before after : List ℕ) → Writes m id buffer a buffer' → a ≡ Length length
      → Writes m id buffer (length_unless_refused 0 length) buffer' × OutputsStay 0 before after
  write_answered {a} {buffer'} length before after h e = (subst (λ (x : WriteAnswer). Writes m id buffer x buffer') e h, λ p. absurd (omega arith))

  pub write_refused : {a : WriteAnswer} {buffer' : List ℕ} (number length : ℕ) (out : List ℕ) → Writes m id buffer a buffer' → a ≡ Refused number
      → Writes m id buffer (length_unless_refused number length) buffer' × OutputsStay number out out
  write_refused zero length out h e = absurd (refusal_number h e refl)
  write_refused {a} {buffer'} (suc number) length out h e = (subst (λ (x : WriteAnswer). Writes m id buffer x buffer') e h, λ p. refl)
