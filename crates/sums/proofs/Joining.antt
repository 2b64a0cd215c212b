-- The loop of `join`.
use Prim.Native.Nat.{ℕ, suc, ◌-◌, ◌<◌, ◌≤◌}
use mathlib.Core.Path.{◌≡◌, refl, ap, ◌∙◌, subst}
use mathlib.Core.List.{List}
use lib.ListN.{get_or, set}
use native.Mathlib.Omega.{arith}
use Rattle.definitions.specs.Node.{Node}
use Rattle.definitions.specs.Intern as I
use Rattle.definitions.specs.Intern.{Lent, built, stopped}
use Rattle.definitions.specs.Patterns.{intern_add}
use Rattle.arena.specs.declared.DagArena.{DagArena}
use Rattle.std.specs.Prelude.{Result, Ok, Err}
use Rattle.refusal.specs.declared.Refusal.{Refusal}
use Rattle.refusal.specs.Number.{number_of}
use Rattle.store.specs.View.{nodes_in, lent, Sound, Kept}
use Rattle.store.specs.Memory.{memory}
use Rattle.store.proofs.Keeping.{kept_refl, kept_trans}
use Rattle.sums.specs.Sums.{BuildsIn, Adds, Summed, Joined, ended, refused, waits, added, JoinsAt, JoinStops}

-- a kept store has the same places
pub lent_same : (words slots : List ℕ) (s : DagArena) (words' slots' : List ℕ) (t : DagArena) → Kept words slots s words' slots' t → lent words' slots' ≡ lent words slots
lent_same words slots s words' slots' t k = rw (k.long, k.wide) refl

-- between turns: an id is the sum so far, and how it is joined from its depth on is how the first sum is
pub record Joining (words slots : List ℕ) (s : DagArena) (rights lefts : List ℕ) (depth id : ℕ) (words' slots' : List ℕ) (t : DagArena) (lefts' : List ℕ) (number from : ℕ) : Type 0 where
  pub kept : Kept words slots s words' slots' t
  pub low : number < t.count
  pub same : lefts' ≡ lefts
  pub shorter : from ≤ depth
  pub goes : (to : ℕ) (b : I.Built) → Joined (lent words slots) rights lefts from (built (nodes_in words' t.count) number) to b
      → Joined (lent words slots) rights lefts depth (built (nodes_in words s.count) id) to b

module _ (words slots : List ℕ) (s : DagArena) (rights lefts : List ℕ) (depth id : ℕ) where
  pub begins : Sound words slots s → id < s.count → Joining words slots s rights lefts depth id words slots s lefts id depth
  begins sound low = record {
    kept = kept_refl words slots s sound;
    low = low;
    same = refl;
    shorter = omega arith;
    goes = λ to b j. j;
  }

  module _ (words' slots' : List ℕ) (t : DagArena) (lefts' : List ℕ) (number from : ℕ) (i : Joining words slots s rights lefts depth id words' slots' t lefts' number from) where
    abbrev l : Lent
    l = lent words slots

    abbrev ns : List Node
    ns = nodes_in words' t.count

    -- the sum so far is what is left
    leaves : (to : ℕ) → Joined l rights lefts from (built ns number) to (built ns number)
        → JoinsAt (memory words slots s) rights lefts depth id (memory words' slots' t) (set lefts' (to - 1) number) to
    leaves to j = record {
      sum = number;
      joined = i.goes to _ j;
      kept = i.kept;
      low = i.low;
      put = ap (λ (a : List ℕ). set a (to - 1) number) i.same;
    }

    pub ends : from ≤ 0 → JoinsAt (memory words slots s) rights lefts depth id (memory words' slots' t) (set lefts' 0 number) 0
    ends none = leaves 0 (let e : 0 ≡ from = omega arith in subst (λ (d : ℕ). Joined l rights lefts d (built ns number) 0 (built ns number)) e ended)

    module _ (some : 0 < from) where
      from_is : suc (from - 1) ≡ from
      from_is = omega arith

      pub stays : (get_or rights (from - 1) 0 ≡ 0 → ⊥) → JoinsAt (memory words slots s) rights lefts depth id (memory words' slots' t) (set lefts' (from - 1) number) from
      stays more = leaves from (subst (λ (d : ℕ). Joined l rights lefts d (built ns number) d (built ns number)) from_is (waits (omega arith)))

      -- one more sum
      module _ (none : get_or rights (from - 1) 0 ≡ 0) where
        pub addable : Summed rights lefts depth s.count → (get_or lefts' (from - 1) 0 < t.count) × (number < t.count)
        addable summed =
            let low = summed (from - 1) (omega (arith, i.shorter)) none in
            let grown = i.kept.count in
            (rw i.same (omega arith), i.low)

        module _ (words'' slots'' : List ℕ) (u : DagArena) (answer : Result ℕ Refusal) (a : Adds (memory words' slots' t) (get_or lefts' (from - 1) 0) number answer (memory words'' slots'' u)) where
          abbrev plain : I.Built
          plain = intern_add (lent words' slots') ns (get_or lefts' (from - 1) 0) number

          adds : (other : Result ℕ Refusal) → answer ≡ other → BuildsIn (memory words' slots' t) plain other (memory words'' slots'' u)
          adds other e = subst (λ (x : Result ℕ Refusal). BuildsIn (memory words' slots' t) plain x (memory words'' slots'' u)) e a

          kept'' : Kept words slots s words'' slots'' u
          kept'' = kept_trans words slots s words' slots' t words'' slots'' u i.kept a.kept

          joins : (m : I.Built) → m ≡ plain → (to : ℕ) (b : I.Built) → Joined l rights lefts (from - 1) m to b
              → Joined l rights lefts depth (built (nodes_in words s.count) id) to b
          joins m e to b j =
              let is = e ∙ ap (λ (k : Lent). intern_add k ns (get_or lefts' (from - 1) 0) number) (lent_same words slots s words' slots' t i.kept)
              ∙ ap (λ (a : List ℕ). intern_add l ns (get_or a (from - 1) 0) number) i.same in
              i.goes to b
              (subst (λ (d : ℕ). Joined l rights lefts d (built ns number) to b) from_is
              (added none (subst (λ (m : I.Built). Joined l rights lefts (from - 1) m to b) is j)))

          pub stops : (refusal : Refusal) → answer ≡ Err refusal → JoinStops (memory words slots s) rights lefts depth id (memory words'' slots'' u) refusal
          stops refusal e = record { joined = joins _ (adds (Err refusal) e).answer 0 _ refused; kept = kept'' }

          pub goes_on : (sum : ℕ) → answer ≡ Ok sum → Joining words slots s rights lefts depth id words'' slots'' u lefts' sum (from - 1)
          goes_on sum e =
              let b = adds (Ok sum) e in
              record {
                kept = kept'';
                low = b.low;
                same = i.same;
                shorter = omega (arith, i.shorter);
                goes = joins _ b.answer;
              }
