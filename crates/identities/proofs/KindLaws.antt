-- A kind that no identity fits.
use Prim.Native.Nat.{ℕ}
use mathlib.Core.Path.{◌≡◌, refl}
use mathlib.Core.List.{List}
use mathlib.Core.Option.{none}
use borrow.Author.Tests.{ne_eqb}
use Rattle.definitions.specs.Node.{Node, add_kind, sub_kind, mul_kind, div_kind, pow_kind}
use Rattle.definitions.specs.Intern.{Lent}
use Rattle.definitions.specs.Patterns.{identities}

pub no_identity : (k a b : ℕ) → (k ≡ add_kind → ⊥) → (k ≡ sub_kind → ⊥) → (k ≡ mul_kind → ⊥) → (k ≡ div_kind → ⊥) → (k ≡ pow_kind → ⊥) → (l : Lent) (ns : List Node) → none ≡ identities l ns k a b
unfolding identities
no_identity k a b x y z u v l ns = rw (ne_eqb k add_kind x, ne_eqb k sub_kind y, ne_eqb k mul_kind z, ne_eqb k div_kind u, ne_eqb k pow_kind v) refl
