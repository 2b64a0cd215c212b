-- A fresh store in numbers.
use Prim.Native.Nat.{ℕ}
use mathlib.Core.Path.{◌≡◌, refl, sym, ap, ◌∙◌, subst}
use mathlib.Core.Bool.{Bool, true, false}
use mathlib.Core.List.{List}
use native.Mathlib.Omega.{arith}
use Rattle.arena.specs.declared.DagArena.{DagArena}
use Rattle.std.proofs.Common.{Ok, Err}
use Rattle.builder.specs.Opens.{FreshStore, Opens, fresh_answer}
use Rattle.definitions.specs.Machine.{fresh_refused}
use Rattle.store.specs.View.{lent}
use Rattle.outputs.specs.Calls.{arena_of, OutputsStay}
use Rattle.curvalique.specs.Opening.{fresh_unless_refused}

module _ (words slots slots' : List ℕ) (opened : FreshStore) (h : Opens words slots opened slots') where
  pub opened_answered : (arena : DagArena) (count size : ℕ) (before after : List ℕ) → opened ≡ Ok arena → arena_of count size ≡ arena
      → Opens words slots (fresh_unless_refused 0 count size) slots' × OutputsStay 0 before after
  opened_answered arena count size before after e a = (subst (λ (x : FreshStore). Opens words slots x slots') (e ∙ ap Ok (sym a)) h, λ p. absurd (omega arith))

  -- the one refusal is 22
  number_is : (number : ℕ) (b : Bool) → ◌≡◌ {A = FreshStore} (Err number) (fresh_answer b) → number ≡ 22
  number_is number true e = cc
  number_is number false e = absurd (let z : ◌≡◌ {A = ℕ} 0 1 = cc in omega arith)

  pub opened_refused : (number count size : ℕ) (out : List ℕ) → opened ≡ Err number → Opens words slots (fresh_unless_refused number count size) slots' × OutputsStay number out out
  opened_refused number count size out e =
      let is : number ≡ 22 = number_is number (fresh_refused (lent words slots)) (sym e ∙ h.answer) in
      (subst (λ (x : FreshStore). Opens words slots x slots') (e ∙ ap Err is ∙ sym (ap (λ (n : ℕ). fresh_unless_refused n count size) is)) h, λ _. refl)
