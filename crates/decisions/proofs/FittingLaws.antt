-- First that fits.
use Prim.Native.Nat.{ℕ}
use mathlib.Core.Path.{◌≡◌, refl, subst}
use mathlib.Core.List.{List}
use mathlib.Core.Option.{Option, none, some}
use Rattle.std.specs.Prelude.{Some, None}
use Rattle.std.specs.Prelude as Std
use Rattle.definitions.specs.Node.{Node}
use Rattle.definitions.specs.Intern.{Lent, Built}
use Rattle.definitions.specs.Patterns.{or_else}
use Rattle.store.specs.View.{nodes_in}
use Rattle.decisions.specs.Deciding.{Decides, plain_result}
use Rattle.decisions.specs.Carrying.{carried}
use Rattle.decisions.specs.declared.Replacement.{Replacement}

abbrev pub Plain : Type 0
Plain = Lent → List Node → Option Built

module _ {w : List ℕ} {count : ℕ} {f : Plain} where
  pub first_fits : (g : Plain) {r : Replacement} → Decides w count f (Some r) → Decides w count (λ l ns. or_else (f l ns) (g l ns)) (Some r)
  first_fits g {r} e = record { is = λ l. subst (λ (o : Option Built). some (carried r l (nodes_in w count)) ≡ or_else o (g l (nodes_in w count))) (e.is l) refl; low = e.low }

  pub second_fits : {g : Plain} {s : Std.Option Replacement} → Decides w count f None → Decides w count g s → Decides w count (λ l ns. or_else (f l ns) (g l ns)) s
  second_fits {g} {s} d e = record { is = λ l. subst (λ (o : Option Built). plain_result l (nodes_in w count) s ≡ or_else o (g l (nodes_in w count))) (d.is l) (e.is l); low = e.low }

  -- the first that fits, else the second's
  pub either_fits : {g : Plain} (r : Std.Option Replacement) {s : Std.Option Replacement} → Decides w count f r → (r ≡ None → Decides w count g s) → ((x : Replacement) → r ≡ Some x → s ≡ Some x)
      → Decides w count (λ l ns. or_else (f l ns) (g l ns)) s
  either_fits {g} (Some x) d e i = rw (i x refl) (first_fits g d)
  either_fits None d e i = second_fits d (e refl)

pub nothing : {w : List ℕ} {count : ℕ} {f : Plain} → ((l : Lent) (ns : List Node) → none ≡ f l ns) → Decides w count f None
nothing {w} {count} e = record { is = λ l. e l (nodes_in w count); low = tt }
