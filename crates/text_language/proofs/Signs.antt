-- Signs by a test, and by the branch that was taken.
use Prim.Native.Nat.{ℕ}
use mathlib.Core.Path.{◌≡◌, refl, sym, ap, ◌∙◌}
use mathlib.Core.Bool.{Bool, true, false, ◌||◌, cond, or-true}
use mathlib.Core.Option.{Option, none, some}
use lib.Dec.{eqb}
use native.Mathlib.Omega.{arith}
use borrow.Author.Tests.{eq-eqb, ne_eqb}
use Rattle.text_language.specs.Grammar.{Chain, sums, products, sign}
use Rattle.text_language.specs.Reader.{which, is_some}
use Rattle.text_language.specs.Scan.{joins}
use Rattle.text_language.proofs.Sound.{absurd_bool}

pub none_of : (o : Option Bool) (r : Bool) → r ≡ is_some o → r ≡ false → o ≡ none
none_of none r p q = refl
none_of (some x) r p q = absurd_bool p q

pub some_of : (o : Option Bool) (r : Bool) → r ≡ is_some o → r ≡ true → (x : Bool) × (o ≡ some x)
some_of none r p q = absurd_bool q p
some_of (some x) r p q = (x, refl)

pub sign_nonzero : (k : Chain) (b : ℕ) (x : Bool) → which k b ≡ some x → b ≡ 0 → ⊥
unfolding which
sign_nonzero sums b x h z = let e : ◌≡◌ {A = Option Bool} none (some x) = sym (ap (which sums) z) ∙ h in let y : ◌≡◌ {A = ℕ} 0 1 = cc in omega arith
sign_nonzero products b x h z = let e : ◌≡◌ {A = Option Bool} none (some x) = sym (ap (which products) z) ∙ h in let y : ◌≡◌ {A = ℕ} 0 1 = cc in omega arith

pub first_sign : (k : Chain) (c : ℕ) → c ≡ sign k false → true ≡ is_some (which k c)
unfolding which
first_sign k c e = sym (ap (λ (x : Bool). is_some (cond x (some false) (cond (eqb c (sign k true)) (some true) none))) (eq-eqb c (sign k false) e))

pub second_sign : (k : Chain) (c : ℕ) → (c ≡ sign k false → ⊥) → eqb c (sign k true) ≡ is_some (which k c)
unfolding which
second_sign k c e = last (eqb c (sign k true)) ∙ sym (ap (λ (x : Bool). is_some (cond x (some false) (cond (eqb c (sign k true)) (some true) none))) (ne_eqb c (sign k false) e))
  where
    last : (q : Bool) → q ≡ is_some (cond q (some true) none)
    last true = refl
    last false = refl

module _ (c : ℕ) (a : Bool) (p : a ≡ is_some (which sums c)) where
  pub join_first : a ≡ true → true ≡ joins c
  unfolding joins
  join_first q = sym (ap (λ (x : Bool). x || (is_some (which products c) || eqb c 94)) (sym p ∙ q))

pub join_second : (c : ℕ) (a b : Bool) → a ≡ is_some (which sums c) → b ≡ is_some (which products c) → b ≡ true → true ≡ joins c
unfolding joins
join_second c a b p q z = sym (ap (λ (x : Bool). is_some (which sums c) || (x || eqb c 94)) (sym q ∙ z) ∙ or-true (is_some (which sums c)))

pub join_third : (c : ℕ) (a b : Bool) → a ≡ is_some (which sums c) → a ≡ false → b ≡ is_some (which products c) → b ≡ false → eqb c 94 ≡ joins c
unfolding joins
join_third c a b p f q z =
    sym (ap (λ (x : Bool). x || (is_some (which products c) || eqb c 94)) (sym p ∙ f) ∙ ap (λ (x : Bool). x || eqb c 94) (sym q ∙ z))
