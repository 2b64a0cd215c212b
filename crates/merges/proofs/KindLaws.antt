-- A kind that no merge fits.
use Prim.Native.Nat.{ℕ}
use mathlib.Core.Path.{◌≡◌, refl}
use mathlib.Core.List.{List}
use mathlib.Core.Option.{none}
use borrow.Author.Tests.{ne_eqb}
use Rattle.definitions.specs.Node.{Node, add_kind, mul_kind}
use Rattle.definitions.specs.Intern.{Lent}
use Rattle.definitions.specs.Patterns.{merges}

pub no_merge : (k a b : ℕ) → (k ≡ mul_kind → ⊥) → (k ≡ add_kind → ⊥) → (l : Lent) (ns : List Node) → none ≡ merges l ns k a b
unfolding merges
no_merge k a b x y l ns = rw (ne_eqb k mul_kind x, ne_eqb k add_kind y) refl
