-- An answer of interning as one number.
use Prim.Native.Nat.{ℕ, ◌+◌, ◌-◌, ◌≤◌, ◌<◌}
use mathlib.Core.Path.{◌≡◌, refl, sym, ap, ◌∙◌, subst}
use mathlib.Core.Bool.{Bool, true, false, cond}
use mathlib.Core.List.{List}
use mathlib.Core.Logic.{⊎_elim}
use lib.Dec.{leb}
use native.Mathlib.Omega.{arith}
use borrow.Author.Tests.{leb-true, le-leb, lt-leb}
use Rattle.arena.specs.declared.DagArena.{DagArena}
use Rattle.arena.specs.Layout.{most_nodes}
use Rattle.definitions.specs.Refusals.{no_slot_place}
use Rattle.definitions.specs.Node as N
use Rattle.definitions.proofs.Stopping.{NoPlace, StopsForPlace, intern_stops}
use Rattle.store.specs.declared.NodeAnswer.{NodeAnswer}
use Rattle.store.specs.declared.NodeAnswer.TheVariants.{Id, Refused}
use Rattle.store.specs.View.{nodes_in, lent, Low, plain_built}
use Rattle.store.specs.Interning.{Interns}
use Rattle.store.specs.Number.{number_of, answer_in}

-- the number of an answer stands for it, where its id is one of the store
pub answer_in_lem : (answer : NodeAnswer) (count : ℕ) → count ≤ most_nodes → Low answer count → answer_in (number_of answer) ≡ answer
unfolding answer_in
answer_in_lem (Id id) count most low = rw (lt-leb most_nodes id (let l : id < count = low in omega arith)) refl
answer_in_lem (Refused k) count most low = let e : most_nodes + k - most_nodes ≡ k = omega arith in rw (le-leb most_nodes (most_nodes + k) (omega arith), e) refl

-- a number is that of the answer which it stands for
pub number_in : (number : ℕ) → number ≡ number_of (answer_in number)
unfolding answer_in
number_in number = go (leb most_nodes number) refl
  where
    go : (past : Bool) → leb most_nodes number ≡ past → number ≡ number_of (cond past (Refused (number - most_nodes)) (Id number))
    go true e = let l = leb-true most_nodes number e in omega arith
    go false e = refl

module _ (w slots : List ℕ) (a : DagArena) (n : N.Node) (w' slots' : List ℕ) (a' : DagArena) (answer : NodeAnswer) (i : Interns w slots a n w' slots' (record { answer = answer; arena = a' })) where
  -- an answer handed on as its number
  pub interns_number : Interns w slots a n w' slots' (record { answer = answer_in (number_of answer); arena = a' })
  interns_number = rw (answer_in_lem answer a'.count i.builds.kept.whole.nodes.formed.many i.builds.low) i

  -- a refusal is 21 or 22, so its number is small
  pub refusal_small : (number : ℕ) → answer ≡ Refused number → number ≤ no_slot_place
  refusal_small number e =
      let s : NoPlace number = subst StopsForPlace (sym (sym (ap (λ (x : NodeAnswer). plain_built x (nodes_in w' a'.count)) e) ∙ i.builds.answer)) (intern_stops (lent w slots) (nodes_in w a.count) n) in
      ⊎_elim (λ h. omega arith) (λ h. omega arith) s
