-- What a sum of kept terms leans on, and what it builds.
use Rattle.std.specs.Prelude.{ℕ, suc, ◌+◌, ◌-◌, ◌/◌, ◌^◌, ◌<◌, ◌≤◌, ◌≡◌, List, length, get_or, set, take, drop, Result, Ok, Err}
use Rattle.refusal.specs.declared.Refusal.{Refusal}
use Rattle.refusal.specs.Number.{number_of}
use Rattle.definitions.specs.Limits.{most_terms}
use Rattle.definitions.specs.Node.{Node}
use Rattle.definitions.specs.Intern as I
use Rattle.definitions.specs.Intern.{Lent, built, stopped}
use Rattle.definitions.specs.Patterns.{zero64, intern_constant, intern_add}
use Rattle.definitions.specs.Prune.{sum_of_kept}
use Rattle.arena.specs.declared.DagArena.{DagArena}
use Rattle.store.specs.declared.Built.{Built}
use Rattle.store.specs.View.{nodes_in, lent, Sound, Kept, Builds}
use Rattle.store.specs.Memory.{Memory}
use Rattle.store.specs.Held.{built_in}
use Rattle.chains.specs.Terms.{AllBelow}

-- ---- terms in an array
-- n terms from a place on
abbrev pub part : List ℕ → ℕ → ℕ → List ℕ
part terms from n = take n (drop from terms)

pub record Inside (terms : List ℕ) (from n : ℕ) : Type 0 where
  pub long : length terms ≡ most_terms
  pub fits : from + n ≤ most_terms

-- ---- sums
-- at most 4,096 terms of a sound store
pub record Summable (words slots : List ℕ) (arena : DagArena) (terms : List ℕ) : Type 0 where
  pub sound : Sound words slots arena
  pub few : length terms ≤ most_terms
  pub below : AllBelow arena.count terms

-- the plain machine's sum of a list of terms, over lent lists
abbrev pub Sums : List ℕ → List ℕ → DagArena → List ℕ → List ℕ → List ℕ → Built → Type 0
Sums words slots arena terms = Builds words slots arena (sum_of_kept (lent words slots) (nodes_in words arena.count) terms)

-- ---- in the memory that a store holds
-- an answer and the memory after it are what the plain machine says
abbrev pub BuildsIn : Memory → I.Built → Result ℕ Refusal → Memory → Type 0
BuildsIn m plain answer m' = Builds m.words m.slots m.arena plain m'.words m'.slots (built_in answer m')

-- its 0.0, its sum of two ids, and of a list of terms
abbrev pub Zero : Memory → Result ℕ Refusal → Memory → Type 0
Zero m = BuildsIn m (intern_constant (lent m.words m.slots) (nodes_in m.words m.arena.count) zero64)

abbrev pub Adds : Memory → ℕ → ℕ → Result ℕ Refusal → Memory → Type 0
Adds m left right = BuildsIn m (intern_add (lent m.words m.slots) (nodes_in m.words m.arena.count) left right)

abbrev pub SumsTerms : Memory → List ℕ → Result ℕ Refusal → Memory → Type 0
SumsTerms m terms = BuildsIn m (sum_of_kept (lent m.words m.slots) (nodes_in m.words m.arena.count) terms)

-- ---- halvings that are not done, by their depth: the size of the second half, or 0 if it is being summed, and then the sum of the first half
-- at most so many halvings of at most 4,096 terms are not done at a time
abbrev pub most_pending : ℕ
most_pending = 12

-- so few terms at a depth that there is a place for each of their halvings
abbrev pub Few : ℕ → ℕ → Type 0
Few depth n = n ≤ 2 ^ (most_pending - depth)

-- the sizes of second halves, after those of `n` terms, of their first half, and so on to one or two terms were put from a depth on; the
-- depth after them, and the number of terms left
pub data Splits : List ℕ → ℕ → ℕ → List ℕ → ℕ → ℕ → Type 0 where
  whole : {rights : List ℕ} {depth n : ℕ} → n ≤ 2 → Splits rights depth n rights depth n
  halved : {rights : List ℕ} {depth n : ℕ} {rights' : List ℕ} {to rest : ℕ} → 2 < n → depth < length rights
      → Splits (set rights depth (n - n / 2)) (suc depth) (n / 2) rights' to rest → Splits rights depth n rights' to rest

-- the sums of the first halves whose second half is being summed are ids of the store
abbrev pub Summed : List ℕ → List ℕ → ℕ → ℕ → Type 0
Summed rights lefts depth count = (place : ℕ) → place < depth → get_or rights place 0 ≡ 0 → get_or lefts place 0 < count

-- A sum at a depth, added to the sums of first halves as long as it ends their second half: the depth and the sum after that. A refusal
-- ends all.
pub data Joined (l : Lent) (rights lefts : List ℕ) : ℕ → I.Built → ℕ → I.Built → Type 0 where
  ended : {b : I.Built} → Joined l rights lefts 0 b 0 b
  refused : {depth : ℕ} {ns : List Node} {number : ℕ} → Joined l rights lefts depth (stopped ns number) 0 (stopped ns number)
  waits : {depth : ℕ} {ns : List Node} {id : ℕ} → 0 < get_or rights depth 0 → Joined l rights lefts (suc depth) (built ns id) (suc depth) (built ns id)
  added : {depth : ℕ} {ns : List Node} {id to : ℕ} {b : I.Built} → get_or rights depth 0 ≡ 0
      → Joined l rights lefts depth (intern_add l ns (get_or lefts depth 0) id) to b → Joined l rights lefts (suc depth) (built ns id) to b

-- the same in memory, from a sum on: the sum stands where its second half comes next, or first
pub record JoinsAt (m : Memory) (rights lefts : List ℕ) (depth id : ℕ) (m' : Memory) (lefts' : List ℕ) (to : ℕ) : Type 0 where
  pub sum : ℕ
  pub joined : Joined (lent m.words m.slots) rights lefts depth (built (nodes_in m.words m.arena.count) id) to (built (nodes_in m'.words m'.arena.count) sum)
  pub kept : Kept m.words m.slots m.arena m'.words m'.slots m'.arena
  pub low : sum < m'.arena.count
  pub put : lefts' ≡ set lefts (to - 1) sum

-- or a refusal ends all
pub record JoinStops (m : Memory) (rights lefts : List ℕ) (depth id : ℕ) (m' : Memory) (refusal : Refusal) : Type 0 where
  pub joined : Joined (lent m.words m.slots) rights lefts depth (built (nodes_in m.words m.arena.count) id) 0 (stopped (nodes_in m'.words m'.arena.count) (number_of refusal))
  pub kept : Kept m.words m.slots m.arena m'.words m'.slots m'.arena

abbrev pub Joins : Memory → List ℕ → List ℕ → ℕ → ℕ → Memory → List ℕ → Result ℕ Refusal → Type 0
Joins m rights lefts depth id m' lefts' (Ok to) = JoinsAt m rights lefts depth id m' lefts' to
Joins m rights lefts depth id m' lefts' (Err refusal) = JoinStops m rights lefts depth id m' refusal
