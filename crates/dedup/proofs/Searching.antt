-- What a search passes, and where it ends.
use Prim.Native.Nat.{ℕ, ◌+◌, ◌%◌, ◌<◌}
use mathlib.Core.Path.{◌≡◌, sym, ap, ◌∙◌, subst}
use mathlib.Core.Bool.{true, false}
use mathlib.Core.List.{List}
use lib.ListN.{get_or}
use native.Mathlib.Omega.{arith}
use native.Mathlib.Nat.{mod-lt}
use borrow.Author.Count.{below_more}
use Rattle.arena.specs.declared.node.DagNode.{DagNode}
use Rattle.dedup.specs.declared.probing.Place.{Place}
use Rattle.dedup.specs.declared.probing.Place.TheVariants.{Here, Free, Nowhere}
use Rattle.slots.specs.Table.{slot_from}
use Rattle.slots.specs.Held.{holds}
use Rattle.slots.specs.Insert.{FirstFree}
use Rattle.dedup.specs.Probe.{Passed, Reaches, Frees, Finds, Probed}

module _ (w : List ℕ) (known : ℕ) (slots : List ℕ) (size : ℕ) (key : DagNode) where
  pub passed_none : (far : ℕ) → far ≡ 0 → Passed w known slots size key far
  passed_none far e = record { used = λ d l. absurd (omega arith); other = λ d l. absurd (omega arith) }

  module _ (far : ℕ) (ps : Passed w known slots size key far) (at : ℕ) (is : at ≡ (key.hash + far) % size) where
    there : get_or slots at 0 ≡ slot_from slots size key.hash far
    there = ap (λ (x : ℕ). get_or slots x 0) is

    pub passed_more : (get_or slots at 0 ≡ 0 → ⊥) → holds w known key (get_or slots at 0) ≡ false → Passed w known slots size key (far + 1)
    passed_more n h = record {
      used = below_more _ _ ps.used (λ z. n (there ∙ z));
      other = below_more _ _ ps.other (ap (holds w known key) (sym there) ∙ h);
    }

    reaches : far < size → Reaches w known slots size key at
    reaches l = record { far = far; near = l; is = is; passed = ps }

    pub ends_free : far < size → get_or slots at 0 ≡ 0 → Probed w known slots size key (Free at)
    unfolding Probed
    ends_free l z = record { reached = reaches l; empty = z }

    pub ends_here : far < size → holds w known key (get_or slots at 0) ≡ true → Probed w known slots size key (Here at)
    unfolding Probed
    ends_here l h = record { reached = reaches l; held = h }

  pub ends_nowhere : (far : ℕ) → far ≡ size → Passed w known slots size key far → Probed w known slots size key Nowhere
  unfolding Probed
  ends_nowhere far e ps = subst (Passed w known slots size key) e ps

  -- ---- what a search's end says
  pub was_here : (r : Place) (at : ℕ) → r ≡ Here at → Probed w known slots size key r → Finds w known slots size key at
  unfolding Probed
  was_here r at e p = subst (Probed w known slots size key) e p

  pub was_free : (r : Place) (at : ℕ) → r ≡ Free at → Probed w known slots size key r → Frees w known slots size key at
  unfolding Probed
  was_free r at e p = subst (Probed w known slots size key) e p

  pub was_nowhere : (r : Place) → r ≡ Nowhere → Probed w known slots size key r → Passed w known slots size key size
  unfolding Probed
  was_nowhere r e p = subst (Probed w known slots size key) e p

  -- a place that a search reaches is one of the table
  pub reached_in : (at : ℕ) → Reaches w known slots size key at → at < size
  reached_in at r = let n = r.near in rw r.is (mod-lt _ (omega arith))

-- where a search ends at an empty slot
pub first_free : (w : List ℕ) (known : ℕ) (slots : List ℕ) (size : ℕ) (key : DagNode) (at : ℕ) → Frees w known slots size key at → FirstFree slots size key.hash at
first_free w known slots size key at f = record { far = f.reached.far; near = f.reached.near; is = f.reached.is; empty = f.empty; used = f.reached.passed.used }
