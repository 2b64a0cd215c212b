-- A test's answer, given and used.
use Prim.Native.Nat.{ℕ, ◌<◌}
use mathlib.Core.Path.{◌≡◌, refl, sym}
use mathlib.Core.Bool.{Bool, true, false, ◌&&◌, false≢true, true≢false}
use lib.Dec.{eqb}
use borrow.Author.Tests.{eqb-true, eqb-false}
use Rattle.definitions.specs.Says.{Says}

pub says_yes : {P : Type 0} → P → Says true P
says_yes p = record { yes = λ _. p; no = λ e. absurd (true≢false e) }

pub says_no : {P : Type 0} → (P → ⊥) → Says false P
says_no n = record { yes = λ e. absurd (false≢true e); no = λ _. n }

-- an answer to a statement is one to another that goes with it
pub says_map : {P Q : Type 0} (r : Bool) → (P → Q) → (Q → P) → Says r P → Says r Q
says_map r f g s = record { yes = λ e. f (s.yes e); no = λ e q. s.no e (g q) }

pub says_eq : (a b : ℕ) → Says (eqb a b) (a ≡ b)
says_eq a b = record { yes = eqb-true a b; no = eqb-false a b }

-- one of many fails
pub all_no : (P : ℕ → Type 0) (n i : ℕ) (r : Bool) → i < n → Says r (P i) → r ≡ false → Says false ((j : ℕ) → j < n → P j)
all_no P n i r l s e = says_no (λ all. s.no e (all i l))

-- a test that is not true is false
pub is_false : (b : Bool) → (b ≡ true → ⊥) → b ≡ false
is_false true h = absurd (h refl)
is_false false h = refl

-- two tests that go with each other are equal
pub same_test : (x y : Bool) → (x ≡ true → y ≡ true) → (y ≡ true → x ≡ true) → x ≡ y
same_test true y f g = sym (f refl)
same_test false true f g = g refl
same_test false false f g = refl

-- two tests that pass together pass each
pub both : (x y : Bool) → x && y ≡ true → (x ≡ true) × (y ≡ true)
both true y h = (refl, h)
both false y h = absurd (false≢true h)
