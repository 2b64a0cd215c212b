-- Neither premise of the second promise can be left out: with one kept term, or at a lower threshold, it is false.
use Prim.Native.Nat.{ℕ, zero, suc, ◌<◌}
use mathlib.Core.Path.{◌≡◌, refl, sym, ap, ◌∙◌}
use mathlib.Core.Bool.{true, false, ◌||◌, false≢true}
use mathlib.Core.List.{List, [], ◌∷◌}
use lib.ListN.{length}
use lib.Dec.{eqb}
use lib.Ieee.{of_bits, nan_bits, lt}
use native.Mathlib.Omega.{arith}
use Rattle.definitions.specs.Node.{nan_constant, Node, node, at, same, variable_kind, constant_kind, add_kind, sub_kind, both_flags}
use Rattle.definitions.specs.Machine.{pruned, Outcome, outcome, all_below, prune_call}
use Rattle.definitions.specs.Examples.{lent, hundredth, tenth, half, one, two}
use Rattle.pruned_again.specs.Plain.{PlainlySound, NotFromOne, NotExchanged}

-- two leaves and an Add over them are plainly sound
module _ (a b c : Node) (la : a.children ≡ []) (lb : b.children ≡ []) (lc : all_below 2 c.children ≡ true) (fc : 0 < length c.children)
    (ka : (eqb a.kind add_kind || eqb a.kind sub_kind) ≡ false) (kb : (eqb b.kind add_kind || eqb b.kind sub_kind) ≡ false)
    (na : nan_constant a.kind a.payload ≡ false) (nb : nan_constant b.kind b.payload ≡ false) (nc : nan_constant c.kind c.payload ≡ false)
    (ab : same a b ≡ false) (ac : same a c ≡ false) (bc : same b c ≡ false) (ba : same b a ≡ false) (ca : same c a ≡ false) (cb : same c b ≡ false) where
  three_lower : (i : ℕ) → i < 3 → all_below i (at (a ∷ b ∷ c ∷ []) i).children ≡ true
  three_lower zero h = ap (all_below 0) la
  three_lower (suc zero) h = ap (all_below 1) lb
  three_lower (suc (suc zero)) h = lc
  three_lower (suc (suc (suc i))) h = absurd (omega arith)

  three_filled : (i : ℕ) → i < 3 → (eqb (at (a ∷ b ∷ c ∷ []) i).kind add_kind || eqb (at (a ∷ b ∷ c ∷ []) i).kind sub_kind) ≡ true → 0 < length (at (a ∷ b ∷ c ∷ []) i).children
  three_filled zero h e = absurd (false≢true (sym ka ∙ e))
  three_filled (suc zero) h e = absurd (false≢true (sym kb ∙ e))
  three_filled (suc (suc zero)) h e = fc
  three_filled (suc (suc (suc i))) h e = absurd (omega arith)

  three_apart : (i j : ℕ) → i < 3 → j < 3 → same (at (a ∷ b ∷ c ∷ []) i) (at (a ∷ b ∷ c ∷ []) j) ≡ true → i ≡ j
  three_apart zero zero h k e = refl
  three_apart zero (suc zero) h k e = absurd (false≢true (sym ab ∙ e))
  three_apart zero (suc (suc zero)) h k e = absurd (false≢true (sym ac ∙ e))
  three_apart (suc zero) zero h k e = absurd (false≢true (sym ba ∙ e))
  three_apart (suc zero) (suc zero) h k e = refl
  three_apart (suc zero) (suc (suc zero)) h k e = absurd (false≢true (sym bc ∙ e))
  three_apart (suc (suc zero)) zero h k e = absurd (false≢true (sym ca ∙ e))
  three_apart (suc (suc zero)) (suc zero) h k e = absurd (false≢true (sym cb ∙ e))
  three_apart (suc (suc zero)) (suc (suc zero)) h k e = refl
  three_apart (suc (suc (suc i))) zero h k e = absurd (omega arith)
  three_apart (suc (suc (suc i))) (suc j) h k e = absurd (omega arith)
  three_apart zero (suc (suc (suc j))) h k e = absurd (omega arith)
  three_apart (suc zero) (suc (suc (suc j))) h k e = absurd (omega arith)
  three_apart (suc (suc zero)) (suc (suc (suc j))) h k e = absurd (omega arith)

  three_numbers : (i : ℕ) → i < 3 → nan_constant (at (a ∷ b ∷ c ∷ []) i).kind (at (a ∷ b ∷ c ∷ []) i).payload ≡ false
  three_numbers zero h = na
  three_numbers (suc zero) h = nb
  three_numbers (suc (suc zero)) h = nc
  three_numbers (suc (suc (suc i))) h = absurd (omega arith)

  three_sound : PlainlySound (a ∷ b ∷ c ∷ [])
  three_sound = record { lower = three_lower; filled = three_filled; numbers = three_numbers; apart = three_apart }

-- 0.5 + 0.01
abbrev half_and_hundredth : List Node
half_and_hundredth = node constant_kind half 0 [] ∷ node constant_kind hundredth 0 [] ∷ node add_kind 0 both_flags (0 ∷ 1 ∷ []) ∷ []

half_and_hundredth_sound : PlainlySound half_and_hundredth
unfolding nan_bits
half_and_hundredth_sound = three_sound _ _ _ refl refl refl (omega arith) refl refl refl refl refl refl refl refl refl refl refl

-- x + 0.01
abbrev variable_and_hundredth : List Node
variable_and_hundredth = node variable_kind 7 0 [] ∷ node constant_kind hundredth 0 [] ∷ node add_kind 0 both_flags (0 ∷ 1 ∷ []) ∷ []

variable_and_hundredth_sound : PlainlySound variable_and_hundredth
unfolding nan_bits
variable_and_hundredth_sound = three_sound _ _ _ refl refl refl (omega arith) refl refl refl refl refl refl refl refl refl refl refl

-- x + x + 0.5
abbrev variable_twice_and_half : List Node
variable_twice_and_half = node variable_kind 7 0 [] ∷ node constant_kind half 0 [] ∷ node add_kind 0 both_flags (0 ∷ 0 ∷ 1 ∷ []) ∷ []

variable_twice_and_half_sound : PlainlySound variable_twice_and_half
unfolding nan_bits
variable_twice_and_half_sound = three_sound _ _ _ refl refl refl (omega arith) refl refl refl refl refl refl refl refl refl refl refl

other_id : (a b k k' d d' : ℕ) (ns : List Node) (o : Outcome) → o.answer ≡ pruned a k d → o ≡ outcome (pruned b k' d') ns → a ≡ b
other_id a b k k' d d' ns o e f = let z : pruned a k d ≡ pruned b k' d' = sym e ∙ ap (λ (x : Outcome). x.answer) f in cc

-- 0.5 + 0.01 at 0.1, then 1.0: a constant between t and u
pub constant_kept : NotFromOne
unfolding prune_call lt of_bits
constant_kept f =
    let p = f lent half_and_hundredth 2 tenth one 0 1 1 0 1 0 half_and_hundredth_sound refl (omega arith) refl refl in
    let z : ◌≡◌ {A = ℕ} 3 0 = other_id 3 0 0 1 2 p.0.0 _ _ refl p.0.1 in
    omega arith

-- x + 0.01 at 0.1, then 2.0: a term that is no constant
pub variable_kept : NotFromOne
unfolding prune_call lt of_bits
variable_kept f =
    let p = f lent variable_and_hundredth 2 tenth two 0 1 1 0 1 0 variable_and_hundredth_sound refl (omega arith) refl refl in
    let z : ◌≡◌ {A = ℕ} 3 0 = other_id 3 0 0 1 2 p.0.0 _ _ refl p.0.1 in
    omega arith

-- x + x + 0.5 at 1.0, then 0.1
pub lower_threshold : NotExchanged
unfolding prune_call lt of_bits
lower_threshold f =
    let p = f lent variable_twice_and_half 2 one tenth 3 2 1 3 2 0 variable_twice_and_half_sound refl (omega arith) refl refl in
    let z : ◌≡◌ {A = ℕ} 5 3 = other_id 5 3 3 2 0 p.0.0 _ _ refl p.0.1 in
    omega arith
