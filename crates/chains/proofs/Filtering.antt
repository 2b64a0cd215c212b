-- A term that `flatten` puts after the first ones kept or before the last ones kept.
use Prim.Native.Nat.{ℕ, suc, ◌+◌, ◌-◌, ◌<◌, ◌≤◌}
use mathlib.Core.Path.{◌≡◌, refl, sym, ap, ◌∙◌}
use mathlib.Core.Bool.{Bool, true, false, cond}
use mathlib.Core.Logic.{◌⊎◌, ⊎_elim}
use mathlib.Core.List.{List, [], ◌∷◌, ◌++◌, append-nil, append_assoc}
use lib.ListN.{length, take, drop, set, length-set}
use lib.Seq.{drop-cons, drop-set-lt, take-suc-set, take-set-le, get_or-set_same}
use native.Mathlib.Omega.{arith}
use native.Mathlib.Numerals.{add-one}
use Rattle.definitions.specs.Limits.{most_terms}
use Rattle.definitions.specs.Prune.{filter}

-- it is counted if it is kept
abbrev pub Counts : Bool → ℕ → ℕ → Type 0
Counts keeps kept kept' = ((keeps ≡ true) × (kept' ≡ kept + 1)) ⊎ ((keeps ≡ false) × (kept' ≡ kept))

pub at_most_one : (keeps : Bool) (kept kept' : ℕ) → Counts keeps kept kept' → kept' ≤ kept + 1
at_most_one keeps kept kept' = ⊎_elim (λ y. omega (arith, y.1)) (λ n. omega (arith, n.1))

filter_append : (keep : ℕ → Bool) (a b : List ℕ) → filter keep (a ++ b) ≡ filter keep a ++ filter keep b
filter_append keep [] b = refl
filter_append keep (i ∷ a) b = go (keep i) (filter_append keep a b)
  where
    go : (c : Bool) → filter keep (a ++ b) ≡ filter keep a ++ filter keep b
        → cond c (i ∷ filter keep (a ++ b)) (filter keep (a ++ b)) ≡ cond c (i ∷ filter keep a) (filter keep a) ++ filter keep b
    go true e = ap (λ (l : List ℕ). i ∷ l) e
    go false e = e

-- ---- after the first ones
module _ (keep : ℕ → Bool) (array : List ℕ) (front front' id : ℕ) (rest : List ℕ) (inside : front < length array) where
  abbrev before : ℕ → List ℕ
  before k = take k (set array front id)

  abbrev joined : Bool → List ℕ
  joined b = take front array ++ cond b (id ∷ []) []

  joins : Counts (keep id) front front' → before front' ≡ take front array ++ filter keep (id ∷ [])
  joins =
      ⊎_elim
      (λ y. ap before (y.1 ∙ add-one front) ∙ take-suc-set array front id inside ∙ ap joined (sym y.0))
      (λ n. ap before n.1 ∙ take-set-le front array front id (omega arith) ∙ sym (append-nil (take front array)) ∙ ap joined (sym n.0))

  pub put_first : Counts (keep id) front front' → take front' (set array front id) ++ filter keep rest ≡ take front array ++ filter keep (id ∷ rest)
  put_first counts =
      ap (λ (l : List ℕ). l ++ filter keep rest) (joins counts)
      ∙ append_assoc (take front array) (filter keep (id ∷ [])) (filter keep rest)
      ∙ ap (λ (l : List ℕ). take front array ++ l) (sym (filter_append keep (id ∷ []) rest))

-- ---- before the last ones
module _ (keep : ℕ → Bool) (array : List ℕ) (kept kept' id : ℕ) (rest : List ℕ) (long : length array ≡ most_terms) (inside : kept < most_terms) where
  abbrev place : ℕ
  place = most_terms - 1 - kept

  abbrev those : List ℕ
  those = drop (most_terms - kept) array

  abbrev after : ℕ → List ℕ
  after k = drop (most_terms - k) (set array place id)

  abbrev chosen : Bool → List ℕ
  chosen b = cond b (id ∷ []) [] ++ those

  next : suc place ≡ most_terms - kept
  next = omega arith

  counted : after (kept + 1) ≡ chosen true
  counted =
      let e : most_terms - (kept + 1) ≡ place = omega arith in
      ap (λ (k : ℕ). drop k (set array place id)) e
      ∙ drop-cons (set array place id) place 0 (omega (arith, length-set array place id))
      ∙ ap (λ (x : ℕ). x ∷ drop (suc place) (set array place id)) (get_or-set_same array place id 0 (omega arith))
      ∙ ap (λ (l : List ℕ). id ∷ l) (drop-set-lt (suc place) array place id (omega arith) ∙ ap (λ (k : ℕ). drop k array) next)

  passed_over : after kept ≡ chosen false
  passed_over = drop-set-lt (most_terms - kept) array place id (omega arith)

  placed : Counts (keep id) kept kept' → after kept' ≡ filter keep (id ∷ []) ++ those
  placed = ⊎_elim (λ y. ap after y.1 ∙ counted ∙ ap chosen (sym y.0)) (λ n. ap after n.1 ∙ passed_over ∙ ap chosen (sym n.0))

  pub put_last : Counts (keep id) kept kept'
      → filter keep rest ++ drop (most_terms - kept') (set array (most_terms - 1 - kept) id) ≡ filter keep (rest ++ id ∷ []) ++ drop (most_terms - kept) array
  put_last counts =
      ap (λ (l : List ℕ). filter keep rest ++ l) (placed counts)
      ∙ sym (append_assoc (filter keep rest) (filter keep (id ∷ [])) those)
      ∙ ap (λ (l : List ℕ). l ++ those) (sym (filter_append keep rest (id ∷ [])))
