-- Demand 1 over the contracts of the code: every call, "for every content of the lent buffers", answers a result or one of the refusals
-- that are listed for it, and 20 exactly if a list that it is lent is not sound.
use Rattle.std.specs.Prelude.{ℕ, ◌≡◌, List, [], ◌∷◌, T, Ok, Err}
use Rattle.arena.specs.declared.DagArena.{DagArena}
use Rattle.definitions.specs.Refusals.{not_sound, bad_operand, no_text, text_too_long, no_slot_place}
use Rattle.definitions.specs.Controller.{ControllerCall, ControllerAnswer}
use Rattle.store.specs.Sound.{Sound}
use Rattle.builder.specs.Reads.{NodeRead, ReadsNode}
use Rattle.builder.specs.Opens.{FreshStore, Opens}
use Rattle.text.specs.Memory.{ControllerMemory, lent_controller, BothSound}
use Rattle.calls.specs.Memory.{CallLeaves}
use Rattle.writer.specs.Answers.{WriteAnswer, Length, Refused}
use Rattle.writer.specs.Writing.{Writes}
use Rattle.refusals_listed.specs.Listed.{among}
use Rattle.refusals_listed.specs.Called.{AnswersOn}

-- the store, simplify, prune and name calls and readings
abbrev pub PublicCallsAnswerListed : Type 0
PublicCallsAnswerListed = (c : ControllerCall) (m m' : ControllerMemory) (a : ControllerAnswer)
    → CallLeaves c m a m' → AnswersOn lent_controller c m a

-- ---- a fresh store

-- 22 "also a fresh store with under 64"
abbrev pub OpenedOr : List ℕ → FreshStore → Type 0
OpenedOr numbers (Ok arena) = Unit {0}
OpenedOr numbers (Err number) = T (among number numbers)

abbrev pub OpensListed : Type 0
OpensListed = (words slots slots' : List ℕ) (r : FreshStore) → Opens words slots r slots' → OpenedOr (no_slot_place ∷ []) r

-- ---- a node read back

abbrev pub NodeOr : List ℕ → NodeRead → Type 0
NodeOr numbers (Ok node) = Unit {0}
NodeOr numbers (Err number) = T (among number numbers)

-- 20, then 4
pub record ReadsNodeListed (words slots : List ℕ) (arena : DagArena) (r : NodeRead) : Type 0 where
  pub listed : NodeOr (not_sound ∷ bad_operand ∷ []) r
  pub unsound : (Sound words slots arena → ⊥) → r ≡ Err not_sound
  pub sound : Sound words slots arena → r ≡ Err not_sound → ⊥

abbrev pub NodesReadListed : Type 0
NodesReadListed = (words slots : List ℕ) (arena : DagArena) (id : ℕ) (r : NodeRead)
    → ReadsNode words slots arena id r → ReadsNodeListed words slots arena r

-- ---- a node's text

abbrev pub TextOr : List ℕ → WriteAnswer → Type 0
TextOr numbers (Length size) = Unit {0}
TextOr numbers (Refused number) = T (among number numbers)

-- 13 and 14 "in this order after 4"
pub record WritesListed (m : ControllerMemory) (r : WriteAnswer) : Type 0 where
  pub listed : TextOr (not_sound ∷ bad_operand ∷ no_text ∷ text_too_long ∷ []) r
  pub unsound : (BothSound m → ⊥) → r ≡ Refused not_sound
  pub sound : BothSound m → r ≡ Refused not_sound → ⊥

abbrev pub WritesAnswerListed : Type 0
WritesAnswerListed = (m : ControllerMemory) (id : ℕ) (buffer buffer' : List ℕ) (r : WriteAnswer) → Writes m id buffer r buffer' → WritesListed m r
