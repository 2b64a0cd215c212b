-- What the loop over a program says of the lists: it is a fold of name calls and store calls, each on sound lists.
use Rattle.std.specs.Prelude.{ℕ, zero, suc, ◌<◌, ◌≡◌, ◌||◌, cond, List, [], ◌∷◌, get_or, eqb}
use Rattle.definitions.specs.Node.{add_kind, mul_kind, both_flags}
use Rattle.definitions.specs.Machine as M
use Rattle.definitions.specs.Making as Plain
use Rattle.definitions.specs.Making.{Controller, joined}
use Rattle.store.specs.declared.NodeAnswer.{NodeAnswer}
use Rattle.store.specs.declared.NodeAnswer.TheVariants.{Id, Refused}
use Rattle.arena.specs.declared.DagArena.{DagArena}
use Rattle.text.specs.declared.making.ReadOutcome.{ReadOutcome}
use Rattle.names.specs.declared.NameReply as Named
use Rattle.names.specs.declared.NameReply.TheVariants as named
use Rattle.text_language.specs.Program.{Token, number, name, negate, join}
use Rattle.text.specs.Memory.{ControllerMemory, controller_of, lent_of, Extends}

abbrev pub outcome : NodeAnswer → Controller → Plain.Made
outcome (Id i) s = Plain.made i s
outcome (Refused r) s = Plain.stopped r s

-- how many values an id of 32 bits has
abbrev pub id_values : ℕ
id_values = 4294967296

abbrev pub FitsId : NodeAnswer → Type 0
FitsId (Id i) = i < id_values
FitsId (Refused r) = Unit {0}

-- an answer and the lists after it are what the plain machine says
pub record Makes (plain : Plain.Made) (m : ControllerMemory) (a : NodeAnswer) (m' : ControllerMemory) : Type 0 where
  pub is : outcome a (controller_of m') ≡ plain
  pub extends : Extends m m'
  pub fits : FitsId a

-- one token, over the last two results
abbrev pub PerformsToken : Token → ℕ → ℕ → ControllerMemory → NodeAnswer → ControllerMemory → Type 0
PerformsToken t first second m a m' = Makes (Plain.perform (lent_of m) t first second (controller_of m)) m a m'

-- all tokens of a program
abbrev pub RunsProgram : List Token → ControllerMemory → NodeAnswer → ControllerMemory → Type 0
RunsProgram ts m a m' = Makes (Plain.run (lent_of m) ts [] (controller_of m)) m a m'

-- the store call of an operator
abbrev pub operator_call : Token → ℕ → ℕ → M.Store
operator_call (number b) first second = M.neg first
operator_call (name w) first second = M.neg first
operator_call negate first second = M.neg first
operator_call (join o) first second = joined o second first

abbrev pub flags_of : ℕ → ℕ
flags_of kind = cond (eqb kind add_kind || eqb kind mul_kind) both_flags 0

-- the refusal of a name call
abbrev pub refusal_of : Named.NameReply → ℕ
refusal_of (named.Numbered n) = 0
refusal_of named.Unknown = 0
refusal_of (named.Named n) = 0
refusal_of (named.Refused r) = r

-- the results that wait, the last first
unfoldable pub stack_of : List ℕ → ℕ → List ℕ
stack_of stack zero = []
stack_of stack (suc h) = get_or stack h 0 ∷ stack_of stack h

-- a reading that is refused before any name or node is made
abbrev pub refused_reading : ℕ → DagArena → ℕ → ReadOutcome
refused_reading k arena names = record { answer = Refused k; arena = arena; names = names }
