-- The loop of `push_siblings`, and the one turn of it that `push_first` makes.
use Prim.Native.Nat.{ℕ, ◌+◌, ◌-◌, ◌<◌, ◌≤◌}
use mathlib.Core.Path.{◌≡◌, refl, sym, ap, ◌∙◌}
use mathlib.Core.List.{List, [], ◌∷◌, ◌++◌, append-nil, append_assoc}
use lib.ListN.{length, get_or, take, drop, set, length-set}
use lib.Seq.{take-suc, take-suc-set, drop-set-lt}
use native.Mathlib.Omega.{arith}
use native.Mathlib.Numerals.{add-one}
use Rattle.definitions.specs.Limits.{most_terms}
use Rattle.chains.specs.Terms.{Pushes}
use Rattle.std.specs.Prelude.{None, Some}

-- between turns, the children before place j have been put
pub record Pushing (children : List ℕ) (top free : ℕ) (before array : List ℕ) (to j : ℕ) : Type 0 where
  pub many : j < length children
  pub room : to ≤ free
  pub places : to ≡ top + j
  pub front : take to array ≡ take top before ++ take j children
  pub back : drop free array ≡ drop free before
  pub long : length array ≡ most_terms

module _ (children : List ℕ) (top free : ℕ) (before : List ℕ) (ends : free ≤ most_terms) where
  pub begins : 0 < length children → top ≤ free → length before ≡ most_terms → Pushing children top free before before top 0
  begins some room long = record {
    many = some;
    room = room;
    places = omega arith;
    front = sym (append-nil (take top before));
    back = refl;
    long = long;
  }

  module _ (array : List ℕ) (to j : ℕ) (p : Pushing children top free before array to j) where
    pub nowhere : j + 1 < length children → free ≤ to → Pushes children top free before None array
    nowhere h k = (omega (arith, p.places), p.long)

    pub somewhere : length children ≤ j + 1 → Pushes children top free before (Some to) array
    somewhere h =
        let one : j ≡ length children - 1 = omega (arith, p.many) in
        (p.room, omega (arith, p.places, p.many), p.front ∙ ap (λ (k : ℕ). take top before ++ take k children) one, p.back, p.long)

    module _ (more : j + 1 < length children) (fits : to < free) where
      pub inside : to < most_terms
      inside = omega arith

      pub goes_on : (child : ℕ) → child ≡ get_or children j 0 → Pushing children top free before (set array to child) (to + 1) (j + 1)
      goes_on child e = record {
        many = more;
        room = omega arith;
        places = omega (arith, p.places);
        front =
            ap (λ (k : ℕ). take k (set array to child)) (add-one to)
            ∙ take-suc-set array to child (omega (arith, p.long, inside))
            ∙ ap (λ (l : List ℕ). l ++ child ∷ []) p.front
            ∙ append_assoc (take top before) (take j children) (child ∷ [])
            ∙ ap (λ (x : ℕ). take top before ++ (take j children ++ x ∷ [])) e
            ∙ ap (λ (l : List ℕ). take top before ++ l) (sym (take-suc children j 0 p.many))
            ∙ ap (λ (k : ℕ). take top before ++ take k children) (sym (add-one j));
        back = drop-set-lt free array to child fits ∙ p.back;
        long = length-set array to child ∙ p.long;
      }

  pub first : length children ≡ 2 → top < free → length before ≡ most_terms → (child : ℕ) → child ≡ get_or children 0 0 → Pushes children top free before (Some (top + 1)) (set before top child)
  first two fits long child e =
      let start = begins (omega arith) (omega arith) long in
      somewhere _ _ _ (goes_on _ _ _ start (omega arith) fits child e) (omega arith)
