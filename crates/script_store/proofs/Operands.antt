-- The operands that the tests hand to try_apply.
use Prim.Native.Nat.{ℕ, zero, suc, ◌-◌, ◌≤◌, ◌<◌}
use mathlib.Core.Path.{◌≡◌, sym, subst}
use mathlib.Core.List.{List}
use lib.ListN.{length, get_or, take, set, replicate, get_or-replicate}
use lib.Seq.{get_or-take, length-take-le}
use native.Mathlib.Omega.{arith}
use Rattle.definitions.specs.Limits.{most_children}
use Rattle.arena.specs.declared.DagArena.{DagArena}
use Rattle.patterns.specs.Applied.{Operands}
use Rattle.script_store.specs.Ready.{Ready}

module _ {w slots : List ℕ} {s : DagArena} {lhs rhs : ℕ} (r : Ready w slots s lhs rhs) where
  -- one id, and another in all places after it
  abbrev all : List ℕ
  all = set (replicate most_children rhs) 0 lhs

  lower : (j : ℕ) → j < most_children → get_or all j 0 < s.count
  lower zero h = r.left
  lower (suc j) h = subst (λ (x : ℕ). x < s.count) (sym (get_or-replicate {A = ℕ} (most_children - 1) j rhs 0 (omega arith))) r.right

  pub operands : (arity : ℕ) → arity ≤ most_children → Operands s.count (take arity all)
  operands arity h =
      let len : length (take arity all) ≡ arity = length-take-le arity all h in record {
        few = omega arith;
        low = λ j l. subst (λ (x : ℕ). x < s.count) (sym (get_or-take arity all j 0 (omega arith))) (lower j (omega arith));
      }
