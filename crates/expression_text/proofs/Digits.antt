-- How large a number of so many digits is.
use Prim.Native.Nat.{ℕ, suc, ◌+◌, ◌-◌, ◌*◌, ◌^◌, ◌≤◌, ◌<◌}
use mathlib.Core.Path.{◌≡◌, refl, sym, ap, ap₂, ◌∙◌}
use mathlib.Core.Bool.{Bool, true, false, ◌&&◌, ◌||◌, cond}
use mathlib.Core.List.{List, [], ◌∷◌}
use lib.ListN.{length}
use lib.Dec.{leb}
use native.Mathlib.Omega.{arith}
use native.Mathlib.Nat.{pow-zero, pow-succ', add-mul, mul_assoc, mul-le-mul_right}
use borrow.Author.Tests.{leb-true, leb-false, lt-leb}
use Rattle.text_language.specs.Grammar.{is_digit, is_hex, hex_digit, digits, Run}
use Rattle.text_language.proofs.Sound.{absurd_bool, and_both}
use Rattle.expression_text.specs.Listed.{AllOf}

pub run_all : {p : ℕ → Bool} {s w r : List ℕ} → Run p s w r → AllOf p w
run_all Run.stop = tt
run_all (Run.more h q) = (h, run_all q)

module _ (b : ℕ) (f : ℕ → ℕ) (p : ℕ → Bool) (low : (c : ℕ) → p c ≡ true → f c < b) where
  -- digits after n stay below the power of the base that is (n + 1) times theirs
  pub digits_low : (n : ℕ) (w : List ℕ) → AllOf p w → digits b f n w < (n + 1) * b ^ length w
  unfolding digits
  digits_low n [] h =
      let y : (n + 1) * b ^ length {A = ℕ} [] ≡ (n + 1) * 1 = ap (λ (q : ℕ). (n + 1) * q) (pow-zero b) in
      let z : digits b f n [] ≡ n = refl in
      omega arith
  digits_low n (c ∷ w) h =
      let i = digits_low (n * b + f c) w h.1 in
      let d = low c h.0 in
      let y : (n * b + f c + 1) * b ^ length w ≤ ((n + 1) * b) * b ^ length w = mul-le-mul_right (b ^ length w) (omega (arith, add-mul n 1 b)) in
      let x : ((n + 1) * b) * b ^ length w ≡ (n + 1) * b ^ suc (length w) = mul_assoc (n + 1) b (b ^ length w) ∙ ap (λ (q : ℕ). (n + 1) * q) (sym (pow-succ' b (length w))) in
      omega arith

pub digit_low : (c : ℕ) → is_digit c ≡ true → c - 48 < 10
digit_low c h = let z = leb-true c 57 (and_both (leb 48 c) (leb c 57) h).1 in omega arith

-- a hex digit is at most f
no_hex : (a b d : Bool) → (a && false || (b && false || d && false)) ≡ false
no_hex true true true = refl
no_hex true true false = refl
no_hex true false true = refl
no_hex true false false = refl
no_hex false true true = refl
no_hex false true false = refl
no_hex false false true = refl
no_hex false false false = refl

hex_most : (c : ℕ) → is_hex c ≡ true → c ≤ 102
hex_most c h = go (leb c 102) refl
  where
    go : (t : Bool) → leb c 102 ≡ t → c ≤ 102
    go true q = leb-true c 102 q
    go false q =
        let z = leb-false c 102 q in
        absurd_bool h
        (ap₂ (λ (x y : Bool). leb 48 c && x || (leb 65 c && y || leb 97 c && leb c 102)) (lt-leb c 57 (omega arith)) (lt-leb c 70 (omega arith))
        ∙ ap (λ (x : Bool). leb 48 c && false || (leb 65 c && false || leb 97 c && x)) q ∙ no_hex (leb 48 c) (leb 65 c) (leb 97 c))

pub hex_low : (c : ℕ) → is_hex c ≡ true → hex_digit c < 16
unfolding hex_digit
hex_low c h = go (leb c 57) (leb c 70) refl refl
  where
    go : (p q : Bool) → leb c 57 ≡ p → leb c 70 ≡ q → cond p (c - 48) (cond q (c - 55) (c - 87)) < 16
    go true q a b = let z = leb-true c 57 a in omega arith
    go false true a b = let z = leb-true c 70 b in omega arith
    go false false a b = let z = hex_most c h in omega arith
