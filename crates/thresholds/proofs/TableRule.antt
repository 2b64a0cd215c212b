-- A table's rule, shown at all of its entries by one test that antt computes over the whole table. Assumes nothing.
use mathlib.Core.Path.{◌∙◌, subst, sym}
use mathlib.Core.Bool.{Bool, true, ◌&&◌}
use mathlib.Core.List.{List, [], ◌∷◌}
use Prim.Native.Nat.{ℕ, zero, suc, ◌+◌, ◌-◌, ◌≤◌, ◌<◌}
use native.Mathlib.Nat.{add-zero, add-suc, suc-add, le_of_suc-le-suc, not-suc-le-zero}
use native.Mathlib.Omega.{arith}
use lib.Dec.{T}
use lib.Ieee.Fits.{and_l, and_r}
use lib.ListN.{length, get_or}

-- the test passes at each entry and its number, where the first entry has the number `first`
unfoldable pub every : (ℕ → ℕ → Bool) → ℕ → List ℕ → Bool
every test first [] = true
every test first (x ∷ xs) = test first x && every test (suc first) xs

-- it passes at the entry in place k
pub entry : (test : ℕ → ℕ → Bool) (first : ℕ) (table : List ℕ) → T (every test first table) → (k : ℕ) → k < length table
    → T (test (first + k) (get_or table k 0))
unfolding every
entry test first [] passed k inside = absurd (not-suc-le-zero inside)
entry test first (x ∷ xs) passed zero inside =
    subst (λ (n : ℕ). T (test n x)) (sym (add-zero first)) (and_l (test first x) (every test (suc first) xs) passed)
entry test first (x ∷ xs) passed (suc k) inside =
    subst (λ (n : ℕ). T (test n (get_or xs k 0))) (suc-add first k ∙ sym (add-suc first k))
    (entry test (suc first) xs (and_r (test first x) (every test (suc first) xs) passed) k (le_of_suc-le-suc inside))

-- and so at each number from the first to the last
pub at_number : (test : ℕ → ℕ → Bool) (first : ℕ) (table : List ℕ) → T (every test first table) → (n : ℕ) → first ≤ n → n < first + length table
    → T (test n (get_or table (n - first) 0))
at_number test first table passed n low high =
    subst (λ (m : ℕ). T (test m (get_or table (n - first) 0))) (omega arith) (entry test first table passed (n - first) (omega arith))
