-- Each known code has its call, and no other code has one.
use Prim.Native.Nat.{ℕ, ◌≤◌, ◌<◌}
use mathlib.Core.Path.{◌≡◌, refl, ap, ◌∙◌}
use mathlib.Core.Bool.{Bool, true, false, cond}
use mathlib.Core.Option.{Option, none, some}
use mathlib.Core.List.{List}
use lib.Dec.{eqb}
use native.Mathlib.Omega.{arith}
use borrow.Author.Tests.{eqb-false, leb-true, leb-false, ne_eqb}
use Rattle.definitions.specs.Controller.{ControllerCall}
use Rattle.encoding.specs.Encoding.{last_code, call_of_code, known}

abbrev pub HasCall : Option ControllerCall → Type 0
HasCall o = (c : ControllerCall) × (o ≡ some c)

line : (code k : ℕ) (x : ControllerCall) (o : Option ControllerCall) → k ≤ code → (k < code → HasCall o) → HasCall (cond (eqb code k) (some x) o)
line code k x o h f = go (eqb code k) refl
  where
    go : (b : Bool) → eqb code k ≡ b → HasCall (cond b (some x) o)
    go true e = (x, refl)
    go false e = let n = eqb-false code k e in f (omega arith)

past : (code k : ℕ) (x o : Option ControllerCall) → k < code → o ≡ none → cond (eqb code k) x o ≡ none
past code k x o h e = ap (λ t. cond t x o) (ne_eqb code k (λ q. absurd (omega arith))) ∙ e

module _ (code a b high low : ℕ) (operands : List ℕ) where
  pub known_has : known code ≡ true → HasCall (call_of_code code a b high low operands)
  unfolding call_of_code
  known_has h =
      let few = leb-true code last_code h in
      line code 0 _ _ (omega arith) (λ n0.
      line code 1 _ _ (omega arith) (λ n1.
      line code 2 _ _ (omega arith) (λ n2.
      line code 3 _ _ (omega arith) (λ n3.
      line code 4 _ _ (omega arith) (λ n4.
      line code 5 _ _ (omega arith) (λ n5.
      line code 6 _ _ (omega arith) (λ n6.
      line code 7 _ _ (omega arith) (λ n7.
      line code 8 _ _ (omega arith) (λ n8.
      line code 9 _ _ (omega arith) (λ n9.
      line code 10 _ _ (omega arith) (λ n10.
      line code 11 _ _ (omega arith) (λ n11.
      line code 12 _ _ (omega arith) (λ n12.
      line code 13 _ _ (omega arith) (λ n13.
      line code 14 _ _ (omega arith) (λ n14.
      line code 15 _ _ (omega arith) (λ n15.
      line code 16 _ _ (omega arith) (λ n16.
      line code 17 _ _ (omega arith) (λ n17.
      line code 18 _ _ (omega arith) (λ n18.
      line code 19 _ _ (omega arith) (λ n19.
      line code 20 _ _ (omega arith) (λ n20.
      line code 21 _ _ (omega arith) (λ n21.
      line code 22 _ _ (omega arith) (λ n22. absurd (omega arith))))))))))))))))))))))))

  past_has_none : last_code < code → call_of_code code a b high low operands ≡ none
  unfolding call_of_code
  past_has_none h =
      past code 0 _ _ (omega arith)
      (past code 1 _ _ (omega arith)
      (past code 2 _ _ (omega arith)
      (past code 3 _ _ (omega arith)
      (past code 4 _ _ (omega arith)
      (past code 5 _ _ (omega arith)
      (past code 6 _ _ (omega arith)
      (past code 7 _ _ (omega arith)
      (past code 8 _ _ (omega arith)
      (past code 9 _ _ (omega arith)
      (past code 10 _ _ (omega arith)
      (past code 11 _ _ (omega arith)
      (past code 12 _ _ (omega arith)
      (past code 13 _ _ (omega arith)
      (past code 14 _ _ (omega arith)
      (past code 15 _ _ (omega arith)
      (past code 16 _ _ (omega arith)
      (past code 17 _ _ (omega arith)
      (past code 18 _ _ (omega arith)
      (past code 19 _ _ (omega arith)
      (past code 20 _ _ (omega arith)
      (past code 21 _ _ (omega arith)
      (past code 22 _ _ (omega arith) refl))))))))))))))))))))))

  pub unknown_has_none : known code ≡ false → call_of_code code a b high low operands ≡ none
  unknown_has_none h = past_has_none (leb-false code last_code h)
