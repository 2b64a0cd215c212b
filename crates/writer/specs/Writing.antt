-- What a write says of the lent store and the lent name list, an id, the lent text buffer, the answer and the buffer after it.
use Rattle.std.specs.Prelude.{◌≡◌, ℕ, ◌<◌, ◌≤◌, false, ◌⊎◌, List, ◌++◌, length, take, drop}
use Rattle.std.proofs.Math.Option.{none, some}
use Rattle.text_language.specs.Grammar.{Expr, Text}
use Rattle.text_language.specs.Program.{postfix}
use Rattle.text_language.specs.Reading.{most_bytes, most_nested, any_nan}
use Rattle.definitions.specs.Refusals.{not_sound, bad_operand, no_text, text_too_long}
use Rattle.definitions.specs.Formula.{formula}
use Rattle.definitions.specs.Controller.{LentLists, Controller, reading, stored, controller_call}
use Rattle.definitions.specs.Promise.{Spells, ControllerCalled}
use Rattle.store.specs.declared.NodeAnswer as Store
use Rattle.store.specs.declared.NodeAnswer.TheVariants as store
use Rattle.text.specs.Memory.{ControllerMemory, lent_controller, controller_of, lent_of, BothSound}
use Rattle.text.specs.Reading.{ReadsText}
use Rattle.expression_text.specs.Written.{text_of, bracket_pairs, blanks}
use Rattle.writer.specs.Expression.{expression_of}
use Rattle.writer.specs.Answers.{WriteAnswer, Length, Refused}

-- ---- the texts of a node

-- "text that reads to that node": a text of the language, however long, deep and spaced, whose expression denotes the node's formula under
-- the names as they are. No constant of it is a NaN: such a text is refused with 10.
pub record NodeText (s : Controller) (id : ℕ) (t : List ℕ) : Type 0 where
  pub expr : Expr
  pub depth : ℕ
  pub text : Text t expr depth
  pub numbers : any_nan (postfix expr) ≡ false
  pub spells : Spells s.names expr (formula s.nodes id)

-- the text that is written
pub record WrittenText (s : Controller) (id : ℕ) (t : List ℕ) : Type 0 where
  pub of : NodeText s id t
  -- signs, names and numerals, and brackets only where an operand does not fit without (specs Written of expression_text); how constants
  -- are printed is said by `Numerals` of its specs Listed
  pub is : t ≡ text_of of.expr
  -- "without blanks"
  pub no_blanks : blanks t ≡ 0
  -- "no text that reads to that node has fewer bracket pairs"
  pub fewest : (u : List ℕ) → NodeText s id u → bracket_pairs t ≤ bracket_pairs u
  -- nor does any nest less deep, so that a node whose text is too deep for reading has no other that is not
  pub shallowest : (u : List ℕ) (n : NodeText s id u) → of.depth ≤ n.depth

-- "14, text over 8,192 bytes, longer than the lent text buffer, or too deep for reading"
abbrev pub TooLong : {s : Controller} {id : ℕ} {t : List ℕ} → WrittenText s id t → List ℕ → Type 0
TooLong {s} {id} {t} w buffer = (most_bytes < length t) ⊎ ((length buffer < length t) ⊎ (most_nested < w.of.depth))

-- the text at the start of the lent buffer: "Bytes past the text .. stay"
abbrev pub in_buffer : List ℕ → List ℕ → List ℕ
in_buffer t buffer = t ++ drop (length t) buffer

-- "Reading it with the same store and names gives the same id", and nothing is added
abbrev pub ReadsBack : LentLists → Controller → ℕ → List ℕ → Type 0
ReadsBack l s id t = controller_call l s (reading t) ≡ record { answer = stored id; left = s }

-- ---- the call

-- 20, 4, 13 and 14, in this order: "on a refusal all [bytes] stay"; or the text and its length
pub data Writes (m : ControllerMemory) (id : ℕ) (buffer : List ℕ) : WriteAnswer → List ℕ → Type 0 where
  unsound : (BothSound m → ⊥) → Writes m id buffer (Refused not_sound) buffer
  unknown : BothSound m → length (controller_of m).nodes ≤ id → Writes m id buffer (Refused bad_operand) buffer
  textless : BothSound m → id < length (controller_of m).nodes → ((t : List ℕ) → NodeText (controller_of m) id t → ⊥)
      → Writes m id buffer (Refused no_text) buffer
  too_long : {t : List ℕ} → BothSound m → id < length (controller_of m).nodes → (w : WrittenText (controller_of m) id t) → TooLong w buffer
      → Writes m id buffer (Refused text_too_long) buffer
  written : {t : List ℕ} → BothSound m → id < length (controller_of m).nodes → (w : WrittenText (controller_of m) id t) → (TooLong w buffer → ⊥)
      → ReadsBack (lent_of m) (controller_of m) id t → Writes m id buffer (Length (length t)) (in_buffer t buffer)

-- no two of the five apply: each refusal is answered exactly in its case (proofs Once)
abbrev pub WritesOnce : Type 0
WritesOnce = (m : ControllerMemory) (id : ℕ) (buffer : List ℕ) (r r' : WriteAnswer) (buffer' buffer'' : List ℕ)
    → Writes m id buffer r buffer' → Writes m id buffer r' buffer'' → (r ≡ r') × (buffer' ≡ buffer'')

-- "It covers variables, constants, Neg and two-operand operators but Mod, with the constructors' flags, marks aside": a node with an
-- expression (specs Expression) has a text, and no other has one
abbrev pub Covers : Type 0
Covers = (m : ControllerMemory) (id : ℕ) → BothSound m → id < length (controller_of m).nodes
    → ((e : Expr) → expression_of (controller_of m).names (controller_of m).nodes id ≡ some e → NodeText (controller_of m) id (text_of e))
    × (expression_of (controller_of m).names (controller_of m).nodes id ≡ none → (t : List ℕ) → NodeText (controller_of m) id t → ⊥)

-- what a write left in the buffer, read on the same lists by the contract of c's call, answers the id and leaves every word, slot and byte
abbrev pub ReadAfterWrite : Type 0
ReadAfterWrite = (m m' : ControllerMemory) (id size : ℕ) (buffer buffer' : List ℕ) (a : Store.NodeAnswer)
    → Writes m id buffer (Length size) buffer' → ReadsText (take size buffer') m a m' → (a ≡ store.Id id) × (m' ≡ m)

-- every text that a reading on the same lists reads to a node that is there, without a new name, is one of the texts over which `fewest` is
-- said. A text that makes a name is none of them: a symbol that stands in the store without a name may be the next number.
abbrev pub ReadTexts : Type 0
ReadTexts = (m m' : ControllerMemory) (id : ℕ) (t : List ℕ) → BothSound m → id < length (controller_of m).nodes
    → ControllerCalled lent_controller (reading t) m (stored id) m' → (controller_of m').names ≡ (controller_of m).names → NodeText (controller_of m) id t

-- so, of what a write left in the buffer, over the two calls: "no text that reads to that node has fewer bracket pairs"
abbrev pub FewestRead : Type 0
FewestRead = (m m' : ControllerMemory) (id size : ℕ) (buffer buffer' t : List ℕ) → Writes m id buffer (Length size) buffer'
    → ControllerCalled lent_controller (reading t) m (stored id) m' → (controller_of m').names ≡ (controller_of m).names
    → bracket_pairs (take size buffer') ≤ bracket_pairs t
