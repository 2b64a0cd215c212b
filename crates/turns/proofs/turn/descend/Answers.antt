-- The bounds come from the walk's invariant; each way out cites its case of Descending.
use mathlib.Core.Path.{sym, ap, ◌∙◌}
use native.Mathlib.Omega.{arith}
use Rattle.std.proofs.Common.{get_or, List, ℕ}
use Rattle.definitions.specs.Modes.{mode_of}
use Rattle.turns.specs.Stack.{stack, top_taken}
use Rattle.turns.proofs.Descending as D
use Rattle.turns.proofs.turn.descend.Goals as goal

pub children-requires : goal.children-requires
children-requires c = D.below _ _ _ c.args.store.now.sound.nodes c.requires

pub is_taken_unwalked-requires : goal.is_taken_unwalked-requires
is_taken_unwalked-requires c = D.child_below _ _ _ c.args.store.now.sound.nodes c.requires _ (ap (λ (l : List ℕ). get_or l (top_taken (stack c.args.arrays.now c.args.heights.now)) 0) c.children.ensures)

pub overflow_add-arrays : goal.overflow_add-arrays
overflow_add-arrays c = let l = D.little _ _ _ c.args.store.now.sound.nodes c.requires in omega arith

pub give-requires-clause-id : goal.give-requires-clause-id
give-requires-clause-id c = D.child_small _ _ _ c.args.store.now.sound.nodes c.requires _ (ap (λ (l : List ℕ). get_or l (top_taken (stack c.args.arrays.now c.args.heights.now)) 0) c.children.ensures)

pub returns-then-is_taken_unwalked : goal.returns-then-is_taken_unwalked
returns-then-is_taken_unwalked c = rw c.give.ensures (D.taken _ _ _ c.args.store.now.sound.nodes c.requires _ (ap (λ (l : List ℕ). get_or l (top_taken (stack c.args.arrays.now c.args.heights.now)) 0) c.children.ensures) (mode_of c.args.mode) (sym c.is_taken_unwalked.ensures ∙ c.if-is_taken_unwalked.true))

pub returns : goal.returns
returns c = rw c.push.ensures (D.walked _ _ _ c.args.store.now.sound.nodes c.requires _ (ap (λ (l : List ℕ). get_or l (top_taken (stack c.args.arrays.now c.args.heights.now)) 0) c.children.ensures) (mode_of c.args.mode) (sym c.is_taken_unwalked.ensures ∙ c.if-is_taken_unwalked.false))
