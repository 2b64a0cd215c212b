-- What a finished frame gives.
use Rattle.std.specs.Prelude.{ℕ, ◌<◌, ◌≡◌, List, ◌∷◌, length, get_or, set, Option, Result}
use Rattle.definitions.specs.Node.{Node, at}
use Rattle.definitions.specs.Walk as W
use Rattle.definitions.specs.Walk.{Mode, marked, rebuilt, rebuild_as, Frame, Turn, go, stop}
use Rattle.definitions.specs.Firing.{frame_firing}
use Rattle.arena.specs.declared.DagArena.{DagArena}
use Rattle.store.specs.View as View
use Rattle.store.specs.View.{nodes_in, Kept, Builds, Low}
use Rattle.store.specs.declared.NodeAnswer.{NodeAnswer}
use Rattle.store.specs.declared.NodeAnswer.TheVariants.{Id, Refused}
use Rattle.decisions.specs.declared.firing.Pattern.{Pattern}
use Rattle.decisions.specs.Fired.{fired_of}
use Rattle.refusal.specs.declared.Refusal.{Refusal}
use Rattle.std.proofs.Math.Option.{none}
use Rattle.store.specs.Held.{built_in}
use Rattle.patterns.specs.declared.Rewritten.{Rewritten}
use Rattle.patterns.specs.declared.Finished.{Finished}
use Rattle.patterns.specs.Rewriting.{finished_as}
use Rattle.rebuild.specs.Memory.{Memory, SoundMemory, nodes_of, lent_of, Keeps}

-- new children of a node: as many as it has, of the store
pub record Rebuildable (m : Memory) (id : ℕ) (children : List ℕ) : Type 0 where
  pub sound : SoundMemory m
  pub below : id < m.arena.count
  pub many : length children ≡ length (at (nodes_of m) id).children
  pub lower : (place : ℕ) → place < length children → get_or children place 0 < m.arena.count

-- the node itself where its children are the old ones, or a node anew
abbrev pub Anew : Memory → ℕ → List ℕ → Result ℕ Refusal → Memory → Type 0
Anew m id children answer m' =
    Builds m.words m.slots m.arena (rebuilt (lent_of m) (nodes_of m) id children none) m'.words m'.slots (built_in answer m')

-- an answer over the memory after it, with its refusal's number
abbrev pub finished_in : Result Rewritten Refusal → Memory → Finished
finished_in answer m' = finished_as answer m'.arena

-- the first pattern of a mode that fits the node over its new children, or the node rebuilt; and which pattern fires
pub record Rebuilds (mode : Mode) (m : Memory) (id : ℕ) (children : List ℕ) (answer : Result Rewritten Refusal) (m' : Memory) : Type 0 where
  pub builds : Builds m.words m.slots m.arena (rebuild_as mode (lent_of m) (nodes_of m) id children) m'.words m'.slots
      (record { answer = (finished_in answer m').answer; arena = m'.arena })
  pub fires : fired_of (finished_in answer m').fired ≡ frame_firing mode (lent_of m) (nodes_of m) id children

-- the result as a value, or the refusal
abbrev pub finished : NodeAnswer → List Node → List Frame → List ℕ → Turn
finished (Id result) ns fs vs = go ns fs (result ∷ vs)
finished (Refused number) ns fs vs = stop ns number

-- the nodes with the mark that a mode sets
pub record MarkedAs (mode : Mode) (words : List ℕ) (count id : ℕ) (words' : List ℕ) : Type 0 where
  pub is : nodes_in words' count ≡ set (nodes_in words count) id (marked mode (at (nodes_in words count) id))
  pub kept : (slots : List ℕ) (arena : DagArena) → arena.count ≡ count → View.Sound words slots arena → Kept words slots arena words' slots arena

-- a finished frame is rebuilt and its result marked as its mode has it, whatever frames and values lie under it
pub record Finishes (mode : Mode) (m : Memory) (id : ℕ) (children : List ℕ) (answer : NodeAnswer) (fired : Option Pattern) (m' : Memory) : Type 0 where
  pub plainly : (fs : List Frame) (vs : List ℕ) → finished answer (nodes_of m') fs vs ≡ W.finish mode fs vs (rebuild_as mode (lent_of m) (nodes_of m) id children)
  pub kept : Keeps m m'
  pub low : Low answer m'.arena.count
  pub fires : fired_of fired ≡ frame_firing mode (lent_of m) (nodes_of m) id children

-- the same in a store that holds its lists: the mark of a mode
pub record MarkedIn (mode : Mode) (m : Memory) (id : ℕ) (m' : Memory) : Type 0 where
  pub marks : MarkedAs mode m.words m.arena.count id m'.words
  pub slots : m'.slots ≡ m.slots
  pub arena : m'.arena ≡ m.arena

-- and a finished frame
abbrev pub FinishesIn : Mode → Memory → ℕ → List ℕ → Result Rewritten Refusal → Memory → Type 0
FinishesIn mode m id children answer m' = Finishes mode m id children (finished_in answer m').answer (finished_in answer m').fired m'
