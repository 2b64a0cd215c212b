-- The listing of a formula typed as text: the listing of the reading's answer and nodes, and after it a line a name.
use Rattle.std.specs.Prelude.{ℕ, ◌+◌, ◌*◌, ◌≤◌, ◌≡◌, cond, List, [], ◌∷◌, ◌++◌, length, take, drop, replicate, eqb}
use Rattle.std.proofs.Math.Option.{none, some}
use Rattle.definitions.specs.Node.{Node}
use Rattle.definitions.specs.Machine as M
use Rattle.definitions.specs.Machine.{state}
use Rattle.definitions.specs.Sheet.{Ran}
use Rattle.definitions.specs.Listing.{listing}
use Rattle.definitions.specs.Controller.{LentLists, Controller, empty_controller, AfterCall, controller_call, reading}
use Rattle.text_language.specs.Refusals.{outside_language}
use Rattle.store.specs.declared.NodeAnswer.{NodeAnswer}
use Rattle.store.specs.declared.NodeAnswer.TheVariants.{Id, Refused}
use Rattle.store.specs.View.{lent}
use Rattle.name_entries.specs.Sound.{names_of, lent_entries}
use Rattle.listing_lines.specs.declared.SheetOutcome as Outcome
use Rattle.listing_lines.specs.declared.SheetOutcome.TheVariants as outcome
use Rattle.listing_lines.specs.Line.{line_bytes}
use Rattle.listing_lines.specs.Outcome.{all_lines}
use Rattle.text.specs.Memory.{ControllerMemory, BothSound, controller_of}
use Rattle.text.specs.Calling.{answered}
use Rattle.text_place.specs.Stopping.{StopsAt}
use Rattle.text_listing_bytes.specs.declared.TextListing.{TextListing}
use Rattle.text_listing_bytes.specs.Names.{name_lines}

-- a fresh store of 512 nodes and 1,024 slots, as the listing program has it, and an empty list of 128 names
abbrev pub text_lent : LentLists
text_lent = record { store = record { nodes = 512; slots = 1024 }; names = 128 }

-- room for the first line, the line of each node and that of each name
abbrev pub text_listing_bytes : ℕ
text_listing_bytes = (text_lent.store.nodes + text_lent.names + 1) * line_bytes

-- how much is lent by words, slots and entries
unfoldable pub lent_lists : List ℕ → List ℕ → List ℕ → LentLists
lent_lists words slots entries = record { store = lent words slots; names = lent_entries entries }

-- what the plain machine does with a text on fresh lists
abbrev pub read_text : LentLists → List ℕ → AfterCall
read_text l s = controller_call l empty_controller (reading s)

-- the answer is the plain machine's, and so are the nodes and names left, in sound lists
pub record ReadsFresh (s : List ℕ) (l : LentLists) (a : NodeAnswer) (d : ControllerMemory) : Type 0 where
  pub answer : answered a ≡ (read_text l s).answer
  pub left : controller_of d ≡ (read_text l s).left
  pub sound : BothSound d

-- the place of a refusal: that of the first byte with which no text of the language goes on for 11, else 0
abbrev pub PlaceOf : List ℕ → NodeAnswer → ℕ → Type 0
PlaceOf s (Id id) place = place ≡ 0
PlaceOf s (Refused number) place = cond (eqb number outside_language) (StopsAt s place) (place ≡ 0)

-- what the first line says: `ok` and the id, or `refused`, the number, `at` and the place
abbrev pub outcome_of : NodeAnswer → ℕ → Outcome.SheetOutcome
outcome_of (Id id) place = outcome.Ok id
outcome_of (Refused number) place = outcome.Refused number place

-- a reading as the listing shows a sheet of one record
abbrev pub ran_of : NodeAnswer → ℕ → List Node → Ran
ran_of (Id id) place ns = record { answers = M.stored id ∷ []; refusal = none; left = state ns }
ran_of (Refused number) place ns = record { answers = []; refusal = some (number, place); left = state ns }

abbrev pub text_listing : NodeAnswer → ℕ → Controller → List ℕ
text_listing a place s = listing (ran_of a place s.nodes) ++ name_lines s.names

-- the lines of an answer, of the nodes and names in lent lists, and after them 0s
pub record Lines (a : NodeAnswer) (at : ℕ) (words : List ℕ) (count : ℕ) (entries : List ℕ) (names : ℕ) (r : TextListing) : Type 0 where
  pub answer : r.answer ≡ a
  pub place : r.place ≡ at
  pub is : take r.length r.bytes ≡ all_lines (outcome_of a at) words count ++ name_lines (names_of entries names)
  pub within : r.length ≤ length r.bytes
  pub rest : drop r.length r.bytes ≡ drop r.length (replicate text_listing_bytes 0)

pub record ListedText (s : List ℕ) (r : TextListing) : Type 0 where
  pub answer : answered r.answer ≡ (read_text text_lent s).answer
  pub place : PlaceOf s r.answer r.place
  pub is : take r.length r.bytes ≡ text_listing r.answer r.place (read_text text_lent s).left
  pub within : r.length ≤ length r.bytes
  -- the bytes past the listing are 0
  pub rest : drop r.length r.bytes ≡ drop r.length (replicate text_listing_bytes 0)
