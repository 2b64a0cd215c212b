-- A turn that only notes how far a child is below its node: it is done again, so that a number falls with it too.
use Prim.Native.Nat.{ℕ, ◌+◌, ◌*◌, ◌-◌, ◌≤◌, ◌<◌}
use mathlib.Core.Path.{◌≡◌, sym, ap, ◌∙◌}
use mathlib.Core.Bool.{Bool, true, false, cond}
use mathlib.Core.List.{List}
use lib.ListN.{length, get_or}
use lib.Dec.{eqb}
use native.Mathlib.Omega.{arith}
use borrow.Author.Tests.{eq-eqb, ne_eqb}
use Rattle.chains.specs.Terms.{children_in, Readable}
use Rattle.chains.proofs.Reading.{child_lower}

-- 1 if a child is not so far below its node, else 0
unfoldable pub late : List ℕ → ℕ → ℕ → ℕ → ℕ → ℕ
late words count id place step = cond (eqb (id - get_or (children_in words count id) place 0) step) 0 1

pub late_few : (words : List ℕ) (count id place step : ℕ) → late words count id place step ≤ 1
unfolding late
late_few words count id place step = by (eqb (id - get_or (children_in words count id) place 0) step)
  where
    by : (b : Bool) → cond b 0 1 ≤ 1
    by true = omega arith
    by false = omega arith

-- less work is less, whatever is late
pub less_work : (m n a b c d : ℕ) → a ≤ 1 → b ≤ 1 → m < n → m * 3 + a + b < n * 3 + c + d
less_work m n a b c d x y l = omega arith

-- and with the same work that fewer are late
pub less_late_left : (n a b c : ℕ) → a < c → n * 3 + a + b < n * 3 + c + b
less_late_left n a b c l = omega arith

pub less_late_right : (n a b c : ℕ) → b < c → n * 3 + a + b < n * 3 + a + c
less_late_right n a b c l = omega arith

module _ (words : List ℕ) (count id place child : ℕ) (is : child ≡ get_or (children_in words count id) place 0) where
  -- a distance that is noted is late no more
  pub noted : (step : ℕ) → (id - child ≡ step → ⊥) → late words count id place (id - child) < late words count id place step
  unfolding late
  noted step other =
      let now : late words count id place (id - child) ≡ 0 = ap (λ (b : Bool). cond b 0 1) (eq-eqb (id - get_or (children_in words count id) place 0) (id - child) (ap (λ (x : ℕ). id - x) (sym is))) in
      let before : late words count id place step ≡ 1 = ap (λ (b : Bool). cond b 0 1) (ne_eqb (id - get_or (children_in words count id) place 0) step (λ e. other (ap (λ (x : ℕ). id - x) is ∙ e))) in
      omega arith

  -- the child at a distance
  pub stepped : Readable words count → id < count → place < length (children_in words count id) → (step : ℕ) → id - child ≡ step → id - step ≡ get_or (children_in words count id) place 0
  stepped r l m step e = omega (arith, child_lower words count r id place child l is m)
