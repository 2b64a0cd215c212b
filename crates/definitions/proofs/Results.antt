-- What building gives, where a pattern fires: its nodes go on from those before it, and its answer is as said.
use Prim.Native.Nat.{ℕ, ◌<◌}
use mathlib.Core.Path.{◌≡◌, refl, sym, subst}
use mathlib.Core.Bool.{Bool, true, false, cond, ◌&&◌, false≢true}
use mathlib.Core.List.{List}
use mathlib.Core.Option.{Option, none, some}
use lib.ListN.{length}
use lib.Dec.{T, eqb, eqb→eq}
use Rattle.definitions.specs.Node.{Node}
use Rattle.definitions.specs.Intern.{Built, built, stopped, then}
use Rattle.definitions.specs.Patterns.{or_else, when}
use Rattle.definitions.proofs.Intern.{Step, Result, trans}

pub result_map : (ns : List Node) (P Q : List Node → ℕ → Type 0) (m : Built) → ((ms : List Node) (i : ℕ) → Step ns ms → P ms i → Q ms i) → Result ns P m → Result ns Q m
result_map ns P Q (built ms i) f x = (x.0, x.1, f ms i x.0 x.2)
result_map ns P Q (stopped ms r) f x = x

pub result_then : (ns : List Node) (P Q : List Node → ℕ → Type 0) (m : Built) (g : List Node → ℕ → Built)
    → ((ms : List Node) (i : ℕ) → Step ns ms → i < length ms → P ms i → Result ms Q (g ms i)) → Result ns P m → Result ns Q (then m g)
result_then ns P Q (built ms i) g f x = up (g ms i) (f ms i x.0 x.1 x.2)
  where
    up : (m : Built) → Result ms Q m → Result ns Q m
    up (built os j) y = (trans x.0 y.0, y.1, y.2)
    up (stopped os r) y = trans x.0 y
result_then ns P Q (stopped ms r) g f x = x

abbrev pub Fires : List Node → (List Node → ℕ → Type 0) → Option Built → Type 0
Fires ns Q none = Unit {0}
Fires ns Q (some m) = Result ns Q m

module _ (ns : List Node) (Q : List Node → ℕ → Type 0) where
  pub or_fires : (x y : Option Built) → Fires ns Q x → Fires ns Q y → Fires ns Q (or_else x y)
  or_fires none y a b = b
  or_fires (some m) y a b = a

  pub if_fires : (b : Bool) (m : Built) → (b ≡ true → Result ns Q m) → Fires ns Q (when b m)
  if_fires true m f = f refl
  if_fires false m f = tt

  pub cond_fires : (b : Bool) (x y : Option Built) → (b ≡ true → Fires ns Q x) → Fires ns Q y → Fires ns Q (cond b x y)
  cond_fires true x y f g = f refl
  cond_fires false x y f g = g

pub and_true : (a b : Bool) → a && b ≡ true → (a ≡ true) × (b ≡ true)
and_true true b e = (refl, e)
and_true false b e = absurd (false≢true e)

pub eqb_is : (a b : ℕ) → eqb a b ≡ true → a ≡ b
eqb_is a b e = eqb→eq a b (subst T (sym e) tt)
