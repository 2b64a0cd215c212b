-- What a turn does, by the plain machine.
use Rattle.std.specs.Prelude.{ℕ, ◌+◌, ◌≤◌, ◌<◌, ◌≡◌, List, [], ◌∷◌, length, Result, Ok, Err}
use Rattle.definitions.specs.Node.{Node, at}
use Rattle.definitions.specs.Intern.{Lent}
use Rattle.definitions.specs.Walk as W
use Rattle.definitions.specs.Walk.{Mode, Frame, Turn, go, stop}
use Rattle.store.specs.View.{nodes_in}
use Rattle.refusal.specs.declared.Refusal.{Refusal}
use Rattle.refusal.specs.Number.{number_of}
use Rattle.rebuild.specs.Memory.{Memory, nodes_of, lent_of, Keeps}
use Rattle.turns.specs.Stack.{Stack, most_frames, most_values, frames_in, values_in, top_id, top_taken, top_frame, frames_under, Valid, Whole, Invariant}

-- ---- the next child

-- the top frame has a next child
pub record Descendable (words : List ℕ) (count : ℕ) (k : Stack) : Type 0 where
  pub some : 1 ≤ k.depth
  pub room : k.depth < most_frames
  pub whole : Whole k
  pub valid : Valid (nodes_in words count) (frames_in k) (values_in k)
  pub more : top_taken k < length (at (nodes_in words count) (top_id k)).children
  pub free : k.filled < most_values

-- "A child that is a leaf or marked is taken unwalked"; another gets a frame
pub record Descends (mode : Mode) (ns : List Node) (k k' : Stack) : Type 0 where
  pub plainly : go ns (frames_in k') (values_in k') ≡ W.descend mode ns (top_frame k) (frames_under k) (values_in k)
  pub near : k'.depth ≤ k.depth + 1
  pub whole : Whole k'
  pub valid : Valid ns (frames_in k') (values_in k')

-- ---- a turn

-- a walk with a frame left
pub record Turnable (m : Memory) (limit : ℕ) (k : Stack) : Type 0 where
  pub some : 1 ≤ k.depth
  pub invariant : Invariant (nodes_of m) limit k

-- a state after a turn, as the plain machine's
abbrev pub turned : Result (Unit {0}) Refusal → List Node → List Frame → List ℕ → Turn
turned (Ok done) ns fs vs = go ns fs vs
turned (Err refusal) ns fs vs = stop ns (number_of refusal)

-- the plain machine's turn at the top frame
abbrev pub turn_of : Mode → Lent → ℕ → List Node → List Frame → List ℕ → Turn
turn_of mode l limit ns [] vs = go ns [] vs
turn_of mode l limit ns (f ∷ fs) vs = W.turn mode l limit ns f fs vs

-- "One step is one turn of the Rust loop."
pub record Turns (mode : Mode) (m : Memory) (limit : ℕ) (k : Stack) (m' : Memory) (k' : Stack) (result : Result (Unit {0}) Refusal) : Type 0 where
  pub plainly : turned result (nodes_of m') (frames_in k') (values_in k') ≡ turn_of mode (lent_of m) limit (nodes_of m) (frames_in k) (values_in k)
  pub kept : Keeps m m'
  pub goes : result ≡ Ok tt → Invariant (nodes_of m') limit k'
