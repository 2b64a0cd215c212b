-- What the whole call says: one equation for the answer and the memory.
use Rattle.std.specs.Prelude.{ℕ, ◌≡◌, List}
use Rattle.definitions.specs.Refusals.{not_sound}
use Rattle.definitions.specs.Making.{make}
use Rattle.definitions.specs.Controller as Plain
use Rattle.definitions.specs.Controller.{ControllerAnswer, AfterCall, controller_call, reading, from_store}
use Rattle.store.specs.declared.NodeAnswer.{NodeAnswer}
use Rattle.store.specs.declared.NodeAnswer.TheVariants.{Refused}
use Rattle.store.specs.Memory.{answer_of}
use Rattle.text_language.specs.Grammar.{Expr}
use Rattle.text_language.specs.Reading.{Refuses, Denotes}
use Rattle.text.specs.Memory.{ControllerMemory, BothSound, controller_of, lent_of, controller_after}
use Rattle.text.specs.Making.{Makes}

abbrev pub answered : NodeAnswer → ControllerAnswer
answered a = from_store (answer_of a)

-- an answer, and the memory after it
pub record ReadingLeft : Type 0 where
  pub answer : ControllerAnswer
  pub memory : ControllerMemory

abbrev pub reading_left : ControllerAnswer → ControllerMemory → ReadingLeft
reading_left answer memory = record { answer = answer; memory = memory }

-- the answer and the memory that the plain machine's call gives over one
abbrev pub reading_left_of : ControllerMemory → AfterCall → ReadingLeft
reading_left_of m x = reading_left x.answer (controller_after m x.left)

-- What a reading leaves: 20 and the same memory where a list is not sound, else the plain machine's answer and the memory that its nodes
-- and names give.
abbrev pub reading_left_by : (s : List ℕ) (m : ControllerMemory) → Dec (BothSound m) → ReadingLeft
reading_left_by s m (yes h) = reading_left_of m (controller_call (lent_of m) (controller_of m) (reading s))
reading_left_by s m (no n) = reading_left (Plain.refused not_sound) m

-- The call: what it says of the memory before it, its answer and the memory after it is one equation for both.
pub record ReadsText (s : List ℕ) (m : ControllerMemory) (a : NodeAnswer) (m' : ControllerMemory) : Type 0 where
  pub equation : (d : Dec (BothSound m)) → reading_left (answered a) m' ≡ reading_left_by s m d

-- ---- case by case, which follows

-- 20 where a list is not sound; 1, 11, 12 or 10, and nothing changed; or the reading of the text's expression, name call by name call and
-- store call by store call, which a 24, 21 or 22 stops where it is.
pub data ReadingCases (s : List ℕ) (m : ControllerMemory) : NodeAnswer → ControllerMemory → Type 0 where
  unsound : (BothSound m → ⊥) → ReadingCases s m (Refused not_sound) m
  refused : {k : ℕ} → BothSound m → Refuses s k → ReadingCases s m (Refused k) m
  read : {e : Expr} {a : NodeAnswer} {m' : ControllerMemory} → BothSound m → Denotes s e
      → Makes (make (lent_of m) e (controller_of m)) m a m' → ReadingCases s m a m'

-- the equation gives its case, by whether the lists are sound, and each case the equation
abbrev pub EquationGivesCase : Type 0
EquationGivesCase = (s : List ℕ) (m m' : ControllerMemory) (a : NodeAnswer) → ReadsText s m a m' → Dec (BothSound m) → ReadingCases s m a m'

abbrev pub CaseGivesEquation : Type 0
CaseGivesEquation = (s : List ℕ) (m m' : ControllerMemory) (a : NodeAnswer) → ReadingCases s m a m' → ReadsText s m a m'

-- two readings of one text on one memory have one answer and leave one memory
abbrev pub ReadsOneWay : Type 0
ReadsOneWay = (s : List ℕ) (m m' m'' : ControllerMemory) (a b : NodeAnswer) → ReadsText s m a m' → ReadsText s m b m'' → (a ≡ b) × (m' ≡ m'')
