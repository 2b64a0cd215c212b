-- A decision under the name of the pattern that it is by, first that fits.
use Prim.Native.Nat.{ℕ}
use mathlib.Core.Path.{◌≡◌, refl, ap, subst}
use mathlib.Core.List.{List}
use mathlib.Core.Option.{Option, none, some}
use borrow.Author.Tests.{ne_eqb}
use Rattle.std.specs.Prelude.{Some, None}
use Rattle.std.specs.Prelude as Std
use Rattle.definitions.specs.Node.{Node, add_kind, sub_kind, mul_kind, div_kind, pow_kind}
use Rattle.definitions.specs.Intern.{Lent, Built}
use Rattle.definitions.specs.Patterns.{or_else}
use Rattle.definitions.specs.Firing as F
use Rattle.definitions.specs.Firing.{if_fits, first_function, merge_function}
use Rattle.store.specs.View.{nodes_in}
use Rattle.decisions.specs.Deciding.{Decides}
use Rattle.decisions.specs.Fired.{pattern_of, fired_of, pattern_in, Chooses}
use Rattle.decisions.specs.declared.Replacement.{Replacement}
use Rattle.decisions.specs.declared.firing.Pattern.{Pattern}
use Rattle.decisions.specs.declared.firing.Decision.{Decision}
use Rattle.decisions.proofs.FittingLaws.{Plain, first_fits, second_fits}

abbrev Naming : Type 0
Naming = Lent → List Node → Option F.Pattern

module _ {w : List ℕ} {count : ℕ} {f : Plain} where
  module _ {r : Replacement} (p : Pattern) {q : F.Pattern} (name : pattern_of p ≡ q) (h : Decides w count f (Some r)) where
    -- it fires under its name before others
    pub first : (g : Plain) (n : Naming) → Chooses w count (λ l ns. or_else (f l ns) (g l ns)) (λ l ns. if_fits (f l ns) q (n l ns)) (Some (record { replacement = r; pattern = p }))
    first g n = record {
      decides = first_fits g h;
      fired = λ l. subst (λ (o : Option Built). some (pattern_of p) ≡ if_fits o q (n l (nodes_in w count))) (h.is l) (ap some name);
    }

    -- and where it is the last one
    pub last : Chooses w count f (λ l ns. if_fits (f l ns) q none) (Some (record { replacement = r; pattern = p }))
    last = record { decides = h; fired = λ l. subst (λ (o : Option Built). some (pattern_of p) ≡ if_fits o q none) (h.is l) (ap some name) }

  module _ (q : F.Pattern) (h : Decides w count f None) where
    -- what fires after one that does not fit
    pub second : {g : Plain} {n : Naming} {d : Std.Option Decision} → Chooses w count g n d → Chooses w count (λ l ns. or_else (f l ns) (g l ns)) (λ l ns. if_fits (f l ns) q (n l ns)) d
    second {g} {n} {d} c = record {
      decides = second_fits h c.decides;
      fired = λ l. subst (λ (o : Option Built). fired_of (pattern_in d) ≡ if_fits o q (n l (nodes_in w count))) (h.is l) (c.fired l);
    }

    pub last_declines : Chooses w count f (λ l ns. if_fits (f l ns) q none) None
    last_declines = record { decides = h; fired = λ l. subst (λ (o : Option Built). none ≡ if_fits o q none) (h.is l) refl }
