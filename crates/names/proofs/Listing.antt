-- The names of a list, and the number of a name among them.
use Prim.Native.Nat.{ℕ, zero, suc, ◌+◌, ◌<◌}
use mathlib.Core.Path.{◌≡◌, refl, sym, ap, ◌∙◌, subst}
use mathlib.Core.Bool.{Bool, true, false}
use mathlib.Core.Option.{none, some}
use mathlib.Core.List.{List, [], ◌∷◌, ◌++◌}
use lib.ListN.{length, get_or, length-append, get_or-append}
use lib.Seq.{get_or_at}
use native.Mathlib.Nat.{add-zero, add-suc, suc-add}
use native.Mathlib.Numerals.{add-one}
use native.Mathlib.Omega.{arith}
use native.Mathlib.Decide.{dec_lt}
use Rattle.definitions.specs.Names.{same_name, number_from}
use Rattle.definitions.proofs.NameLists.{same_self, same_one}
use Rattle.name_entries.specs.Sound.{names_of, name_at}

same_other : (a b : List ℕ) → (a ≡ b → ⊥) → same_name a b ≡ false
same_other a b n = go (same_name a b) refl
  where
    go : (r : Bool) → same_name a b ≡ r → r ≡ false
    go true e = absurd (n (same_one a b e))
    go false e = refl

pub number_found : (names : List (List ℕ)) (n i : ℕ) (name : List ℕ) → i < length names → get_or names i [] ≡ name → ((j : ℕ) → j < i → get_or names j [] ≡ name → ⊥) → number_from names n name ≡ some (n + i)
unfolding number_from
number_found [] n i name l e first = absurd (omega arith)
number_found (m ∷ ms) n zero name l e first = rw (number_from, ap (λ (x : List ℕ). same_name m x) (sym e) ∙ same_self m, add-zero n) refl
number_found (m ∷ ms) n (suc i) name l e first =
    rw (number_from, same_other m name (first 0 (omega arith)), add-suc n i, ← suc-add n i)
    (number_found ms (suc n) i name (omega arith) e (λ j h. first (suc j) (omega arith)))

pub number_none : (names : List (List ℕ)) (n : ℕ) (name : List ℕ) → ((j : ℕ) → j < length names → get_or names j [] ≡ name → ⊥) → number_from names n name ≡ none
unfolding number_from
number_none [] n name other = refl
number_none (m ∷ ms) n name other = rw (number_from, same_other m name (other 0 (omega arith))) (number_none ms (suc n) name (λ j h. other (suc j) (omega arith)))

module _ (bytes : List ℕ) where
  pub names_length : (n : ℕ) → length (names_of bytes n) ≡ n
  unfolding names_of
  names_length zero = refl
  names_length (suc n) = length-append (names_of bytes n) (name_at bytes n ∷ []) ∙ ap (λ (k : ℕ). k + 1) (names_length n) ∙ add-one n

  pub names_at : (n i : ℕ) → i < n → get_or (names_of bytes n) i [] ≡ name_at bytes i
  unfolding names_of
  names_at zero i l = absurd (omega arith)
  names_at (suc n) i l = go (names_at n i) (dec_lt i n)
    where
      go : (i < n → get_or (names_of bytes n) i [] ≡ name_at bytes i) → Dec (i < n) → get_or (names_of bytes n ++ name_at bytes n ∷ []) i [] ≡ name_at bytes i
      go h (yes m) = get_or-append (names_of bytes n) (name_at bytes n ∷ []) [] i (omega (arith, names_length n)) ∙ h m
      go h (no m) =
          let e : n ≡ i = omega arith in
          subst (λ (k : ℕ). get_or (names_of bytes n ++ name_at bytes n ∷ []) k [] ≡ name_at bytes k) e (get_or_at (names_of bytes n) (name_at bytes n) [] [] n (names_length n))

-- lists of the same entries have the same names
pub names_agree : (a b : List ℕ) (n : ℕ) → ((i : ℕ) → i < n → name_at a i ≡ name_at b i) → names_of a n ≡ names_of b n
unfolding names_of
names_agree a b zero h = refl
names_agree a b (suc n) h = rw (names_agree a b n (λ i l. h i (omega arith)), h n (omega arith)) refl
