-- Looking for an entry among those in use.
use Prim.Native.Nat.{ℕ, ◌+◌, ◌≤◌, ◌<◌}
use mathlib.Core.Path.{◌≡◌, sym, ◌∙◌}
use mathlib.Core.Bool.{Bool, true, false}
use mathlib.Core.List.{List}
use native.Mathlib.Omega.{arith}
use borrow.Author.Count.{below_more}
use Rattle.std.specs.Prelude.{Some, None}
use Rattle.definitions.specs.Says.{Says}
use Rattle.name_entries.specs.Entry.{entry_at, IsEntry}
use Rattle.names.specs.Calls.{FindsEntry}

-- no entry below a number is the key
abbrev pub NotBelow : List ℕ → List ℕ → ℕ → Type 0
NotBelow bytes key n = (j : ℕ) → j < n → entry_at bytes j ≡ key → ⊥

module _ (bytes key : List ℕ) (i : ℕ) (e : List ℕ) (r : Bool) (at : IsEntry bytes i e) (s : Says r (e ≡ key)) where
  pub found_here : r ≡ true → (count : ℕ) → i < count → NotBelow bytes key i → FindsEntry bytes count key (Some i)
  found_here t count l n = record { below = l; same = sym at.is ∙ s.yes t; first = n }

  pub not_more : r ≡ false → NotBelow bytes key i → NotBelow bytes key (i + 1)
  not_more f n = below_more (λ (j : ℕ). entry_at bytes j ≡ key → ⊥) i n (λ q. s.no f (at.is ∙ q))

pub found_nowhere : (bytes key : List ℕ) (count i : ℕ) → count ≤ i → NotBelow bytes key i → FindsEntry bytes count key None
found_nowhere bytes key count i l n = λ j m. n j (omega arith)
