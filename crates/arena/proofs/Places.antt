-- Child places that hold lent children: the children, then 0.
use Prim.Native.Nat.{ℕ, zero, suc, ◌+◌, ◌-◌, ◌≤◌, ◌<◌}
use mathlib.Core.Path.{◌≡◌, refl, sym, ap, ◌∙◌}
use mathlib.Core.List.{List, [], ◌∷◌, ◌++◌, append_assoc}
use lib.ListN.{get_or, length, set, take, drop, replicate, length-append, length-replicate}
use lib.Seq.{paste, paste-suc, take_all, take_at, drop_at, drop-drop, length-take-le, take-append_seam}
use native.Mathlib.Omega.{arith}
use Rattle.arena.specs.Layout.{most_children}
use Rattle.arena.specs.Node.{places_of}

-- ---- zeros
abbrev zeros : ℕ → List ℕ
zeros k = replicate k 0

zeros_at : (k j : ℕ) → ◌≡◌ {A = ℕ} (get_or (zeros k) j 0) 0
zeros_at zero j = refl
zeros_at (suc k) zero = refl
zeros_at (suc k) (suc j) = zeros_at k j

zeros_length : (k : ℕ) → length (zeros k) ≡ k
zeros_length k = length-replicate k _

zeros_after : (c : List ℕ) (k j : ℕ) → get_or (c ++ replicate k 0) j 0 ≡ get_or c j 0
zeros_after [] k j = zeros_at k j
zeros_after (x ∷ c) k zero = refl
zeros_after (x ∷ c) k (suc j) = zeros_after c k j

drop_zeros : (n k : ℕ) (rest : List ℕ) → n ≤ k → drop n (replicate k 0 ++ rest) ≡ replicate (k - n) 0 ++ rest
drop_zeros zero k rest l = ap (λ (x : ℕ). replicate x 0 ++ rest) (let e : k ≡ k - 0 = omega arith in e)
drop_zeros (suc n) zero rest l = absurd (omega arith)
drop_zeros (suc n) (suc k) rest l = drop_zeros n k rest (omega arith) ∙ ap (λ (x : ℕ). replicate x 0 ++ rest) (let e : k - n ≡ suc k - suc n = omega arith in e)

-- ---- places
module _ (c : List ℕ) where
  pub places_at : (j : ℕ) → get_or (places_of c) j 0 ≡ get_or c j 0
  unfolding places_of
  places_at j = zeros_after c (most_children - length c) j

  pub places_taken : take (length c) (places_of c) ≡ c
  unfolding places_of
  places_taken = take-append_seam c (replicate (most_children - length c) 0)

  pub places_length : length c ≤ most_children → length (places_of c) ≡ most_children
  unfolding places_of
  places_length l = length-append c (zeros (most_children - length c)) ∙ omega (arith, zeros_length (most_children - length c))

-- the places cleared, and then the children written
pub cleared : (w : List ℕ) (at : ℕ) (c : List ℕ) → at + most_children ≤ length w → length c ≤ most_children → paste (paste w at (places_of []) most_children) at c (length c) ≡ paste w at (places_of c) most_children
unfolding places_of
cleared w at c fits few =
    let z : List ℕ = replicate most_children 0 in
    let d : List ℕ = drop (at + most_children) w in
    let r : List ℕ = replicate (most_children - length c) 0 in
    let long : length (take at w) ≡ at = length-take-le at w (omega arith) in
    let all : take most_children z ≡ z = take_all most_children z (omega (arith, zeros_length most_children)) in
    let x : take at w ++ take most_children z ++ d ≡ take at w ++ (z ++ d) = ap (λ (y : List ℕ). take at w ++ y ++ d) all ∙ append_assoc (take at w) z d in
    let front : take at (take at w ++ take most_children z ++ d) ≡ take at w = ap (take at) x ∙ take_at (take at w) (z ++ d) at long in
    let back : drop (at + length c) (take at w ++ take most_children z ++ d) ≡ r ++ d =
    sym (drop-drop (length c) at (take at w ++ take most_children z ++ d)) ∙ ap (λ (y : List ℕ). drop (length c) (drop at y)) x ∙ ap (drop (length c)) (drop_at (take at w) (z ++ d) at long) ∙ drop_zeros (length c) most_children d few in
    let whole : take most_children (c ++ r) ≡ c ++ r = take_all most_children (c ++ r) (omega (arith, length-append c r, zeros_length (most_children - length c))) in
    rw (front, back, take_all (length c) c (omega arith), whole) (sym (append_assoc (take at w ++ c) r d) ∙ ap (λ (y : List ℕ). y ++ d) (append_assoc (take at w) c r))
