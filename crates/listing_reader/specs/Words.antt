-- A word at a place of the bytes.
use Rattle.std.specs.Prelude.{ℕ, ◌+◌, ◌≤◌, ◌≡◌, Bool, true, false, List, ◌++◌, length, drop}

-- whether a word stands at a place, both ways
pub record StartsWith (bytes : List ℕ) (at : ℕ) (word : List ℕ) (r : Bool) : Type 0 where
  pub text : r ≡ true → drop at bytes ≡ word ++ drop (at + length word) bytes
  pub within : r ≡ true → at + length word ≤ length bytes
  pub nothing : r ≡ false → (rest : List ℕ) → drop at bytes ≡ word ++ rest → ⊥
