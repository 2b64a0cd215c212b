-- `fold::bits_of` meets its contract: only a NaN differs from itself. Assumes nothing.
use mathlib.Core.Path.{◌≡◌, refl, sym, ap, subst}
use mathlib.Core.Bool.{Bool, false, not, cond}
use mathlib.Core.Option.{none, some}
use lib.Dec.{T}
use lib.Ieee.{Float, nan, inf, fin, is_nan, ne}
use lib.Ieee.Compare.{differs_from_itself}
use Rattle.definitions.specs.Patterns.{unless_nan}
use Rattle.fold.specs.Fold.{pattern_of, stored}
use Rattle.std.specs.Prelude.{Some, None}
use Rattle.fold.proofs.bits_of.Goals as goal

number : (x : Float) → ne x x ≡ false → is_nan x ≡ false
unfolding is_nan ne
number nan h = absurd (subst T h tt)
number (inf s) h = refl
number (fin s m e) h = refl

kept : (x : Float) → ne x x ≡ false → Some (pattern_of x) ≡ stored (unless_nan (some x))
kept x h = ap (λ (b : Bool). stored (cond b none (some x))) (sym (number x h))

declined : (x : Float) → x ≡ nan → None ≡ stored (unless_nan (some x))
unfolding is_nan
declined x e = ap (λ (y : Float). stored (unless_nan (some y))) (sym e)

pub float_to_bits-result : goal.float_to_bits-result
float_to_bits-result c = subst (λ (b : Bool). T (not b)) (sym (number _ c.if-x.false)) tt

pub returns-then-x : goal.returns-then-x
returns-then-x c = declined _ (differs_from_itself _ (subst T (sym c.if-x.true) tt))

pub returns : goal.returns
returns c = kept _ c.if-x.false
