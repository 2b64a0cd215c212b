-- Some of the terms of an array, from a place on, and their halves.
use Prim.Native.Nat.{ℕ, zero, suc, ◌+◌, ◌-◌, ◌/◌, ◌<◌, ◌≤◌}
use mathlib.Core.Path.{◌≡◌, refl, sym, ap, ◌∙◌}
use mathlib.Core.List.{List, [], ◌∷◌}
use lib.ListN.{length, get_or, take, drop, length-take, length-drop}
use lib.Seq.{take-nil, take-take, drop-drop, get_or-take, get_or-drop}
use native.Mathlib.Omega.{arith}
use Rattle.chains.specs.Terms.{AllBelow}
use Rattle.sums.specs.Sums.{part, Inside}

drop_of_take : (m k : ℕ) (xs : List ℕ) → drop m (take (m + k) xs) ≡ take k (drop m xs)
drop_of_take zero k xs = let e : 0 + k ≡ k = omega arith in rw e refl
drop_of_take (suc m) k [] = let e : suc m + k ≡ suc (m + k) = omega arith in rw e (sym (take-nil k))
drop_of_take (suc m) k (x ∷ xs) = let e : suc m + k ≡ suc (m + k) = omega arith in rw e (drop_of_take m k xs)

part_at : (terms : List ℕ) (from n place : ℕ) → place < n → get_or (part terms from n) place 0 ≡ get_or terms (from + place) 0
part_at terms from n place less = get_or-take n (drop from terms) place 0 less ∙ get_or-drop from terms place 0

module _ (terms : List ℕ) (from n : ℕ) (i : Inside terms from n) where
  pub part_length : length (part terms from n) ≡ n
  part_length = let a = length-take n (drop from terms) in let b = length-drop from terms in let c = i.long in let d = i.fits in omega arith

  pub left_part : part terms from (n / 2) ≡ take (length (part terms from n) / 2) (part terms from n)
  left_part = rw part_length (sym (take-take (n / 2) n (drop from terms) (omega arith)))

  pub right_part : part terms (from + n / 2) (n - n / 2) ≡ drop (length (part terms from n) / 2) (part terms from n)
  right_part =
      let e : n / 2 + (n - n / 2) ≡ n = omega arith in
      rw part_length
      (ap (take (n - n / 2)) (sym (drop-drop (n / 2) from terms))
      ∙ sym (drop_of_take (n / 2) (n - n / 2) (drop from terms))
      ∙ ap (λ (m : ℕ). drop (n / 2) (take m (drop from terms))) e)

  -- the terms of a part lie below a number, and so do those of a part of it
  module _ (count : ℕ) (below : AllBelow count (part terms from n)) where
    pub term_below : (at : ℕ) → from ≤ at → at < from + n → get_or terms at 0 < count
    term_below at after before =
        let place : from + (at - from) ≡ at = omega arith in
        let is = part_at terms from n (at - from) (omega arith) ∙ ap (λ (m : ℕ). get_or terms m 0) place in
        omega (arith, is, below (at - from) (omega (arith, part_length)))

    pub part_below : (at m : ℕ) → from ≤ at → at + m ≤ from + n → (more : ℕ) → count ≤ more → AllBelow more (part terms at m)
    part_below at m after before more grown place less =
        let short = length-take m (drop at terms) in
        let is = part_at terms at m place (omega arith) in
        omega (arith, is, term_below (at + place) (omega arith) (omega arith))
