-- The operands of a call: whether all are below the count.
use Prim.Native.Nat.{ℕ, zero, suc, ◌+◌, ◌≤◌, ◌<◌}
use mathlib.Core.Path.{◌≡◌, refl, sym, ap, ◌∙◌}
use mathlib.Core.Bool.{true, false, ◌&&◌}
use mathlib.Core.List.{List, [], ◌∷◌}
use lib.ListN.{length, get_or, drop, drop_of_length-le}
use lib.Seq.{drop-cons}
use lib.Dec.{ltb}
use native.Mathlib.Omega.{arith}
use native.Mathlib.Numerals.{add-one}
use borrow.Author.Tests.{lt-ltb, le-ltb, ltb-true}
use Rattle.definitions.proofs.Deciding.{both}
use Rattle.definitions.specs.Machine.{all_below}

-- ---- whether all are below the count, from a place on
module _ (count : ℕ) (l : List ℕ) (j : ℕ) (e : all_below count l ≡ all_below count (drop j l)) where
  here : j < length l → all_below count l ≡ (ltb (get_or l j 0) count && all_below count (drop (suc j) l))
  here b = e ∙ ap (all_below count) (drop-cons l j 0 b)

  pub below_stops : j < length l → count ≤ get_or l j 0 → false ≡ all_below count l
  below_stops b h = sym (here b ∙ (rw (le-ltb (get_or l j 0) count h) refl))

  pub below_next : j < length l → get_or l j 0 < count → all_below count l ≡ all_below count (drop (j + 1) l)
  below_next b h = here b ∙ (rw (lt-ltb (get_or l j 0) count h, add-one j) refl)

  pub below_ends : length l ≤ j → true ≡ all_below count l
  below_ends b = sym (e ∙ ap (all_below count) (drop_of_length-le l b))

-- each of them
pub below_each : (count : ℕ) (l : List ℕ) → all_below count l ≡ true → (j : ℕ) → j < length l → get_or l j 0 < count
below_each count [] h j b = absurd (omega arith)
below_each count (x ∷ l) h zero b = ltb-true x count (both (ltb x count) (all_below count l) h).0
below_each count (x ∷ l) h (suc j) b = below_each count l (both (ltb x count) (all_below count l) h).1 j (omega arith)
