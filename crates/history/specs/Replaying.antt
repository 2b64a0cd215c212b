-- What a list of calls that is run leaves, and the promise that it keeps.
use Rattle.std.specs.Prelude.{ℕ, ◌≡◌, true, false, List, [], ◌∷◌, map, length, drop, Result, Ok, Err}
use Rattle.std.proofs.Math.Option.{Option, none, some}
use Rattle.refusal.specs.declared.Refusal.{Refusal}
use Rattle.refusal.specs.declared.Refusal.TheVariants.{NoSlotPlace}
use Rattle.definitions.specs.Machine as M
use Rattle.definitions.specs.Listing.{last_of}
use Rattle.definitions.specs.Controller.{LentLists, ControllerCall, ControllerAnswer, empty_controller, controllers, Part}
use Rattle.definitions.specs.Promise.{FreshController, Promise, All}
use Rattle.store.specs.View.{lent}
use Rattle.name_entries.specs.Sound.{lent_entries}
use Rattle.calls.specs.declared.handing.CallResult.{CallResult}
use Rattle.history.specs.declared.Run.{Run}
use Rattle.text.specs.Memory.{ControllerMemory, controller_memory, lent_controller, controller_after}
use Rattle.calls.specs.Memory.{fresh_controller_memory, LeavesInTurn}
use Rattle.encoding.specs.Encoding.{first_call, decode, read_words}
use Rattle.calls.specs.Calling.{last_reply_of, NameBeside}

-- the last of a list, if there is one
abbrev pub last : {A : Type 0} → List A → Option A
last [] = none
last (x ∷ xs) = some (last_of x xs)

-- the memory that was lent, after a call
abbrev pub after : List ℕ → List ℕ → List ℕ → CallResult → ControllerMemory
after words slots bytes r = controller_memory words slots r.arena bytes r.names

-- Calls on any memory: the answers, the memory after each, and the last of both.
pub record Continues (m : ControllerMemory) (cs : List ControllerCall) (r : CallResult) (m' : ControllerMemory) : Type 0 where
  pub answers : List ControllerAnswer
  pub memories : List ControllerMemory
  pub left : LeavesInTurn m cs answers memories
  pub last_memory : last_of m memories ≡ m'
  pub last_answer : last answers ≡ last_reply_of r.reply r.name
  pub last_name : NameBeside r.reply r.name

-- How many calls were run, and how many words they take, so that a caller sees whether all words were read. No whole call with a known code
-- stands at the rest.
pub record Counts (calls : List ℕ) (r : Run) : Type 0 where
  pub calls_run : r.calls ≡ length (decode calls)
  pub words_read : r.words ≡ read_words calls
  pub no_more : first_call (drop r.words calls) ≡ none

-- every call of the words was run, and nothing else
pub record RunsAll (m : ControllerMemory) (calls : List ℕ) (r : Run) (m' : ControllerMemory) : Type 0 where
  pub continues : Continues m (decode calls) r.last m'
  pub counts : Counts calls r

-- how much is lent
abbrev pub lent_in : List ℕ → List ℕ → List ℕ → LentLists
lent_in words slots bytes = record { store = lent words slots; names = lent_entries bytes }

-- "the first gets a fresh store", and the names are "empty at first": the calls were run from there, and keep the promise, with
-- store and names sound on the way.
pub record Promised (words slots bytes : List ℕ) (cs : List ControllerCall) (r : CallResult) (words' slots' bytes' : List ℕ)
    : Type 0 where
  pub fresh : FreshController lent_controller (fresh_controller_memory words slots bytes)
  pub run : Continues (fresh_controller_memory words slots bytes) cs r (after words' slots' bytes' r)
  pub promise : Promise (lent_in words slots bytes) cs run.answers (map lent_controller.view run.memories)
  pub sound : All (λ m. (p : Part) → lent_controller.Sound m p) run.memories
  -- store and names after the last are the memory that the plain machine's nodes and names give over the fresh one
  pub memory : after words' slots' bytes' r ≡ controller_after (fresh_controller_memory words slots bytes)
      (last_of empty_controller (controllers (lent_in words slots bytes) empty_controller cs))

-- the reason NoSlotPlace and nothing changed where a fresh store is refused, so that no call was run; else the promise
pub record Replays (words slots bytes calls : List ℕ) (r : Result Run Refusal) (words' slots' bytes' : List ℕ) : Type 0 where
  pub refused : M.fresh_refused (lent words slots) ≡ true
      → (r ≡ Err NoSlotPlace) × (words' ≡ words) × (slots' ≡ slots) × (bytes' ≡ bytes)
  pub promised : M.fresh_refused (lent words slots) ≡ false
      → (run : Run) × (r ≡ Ok run) × Promised words slots bytes (decode calls) run.last words' slots' bytes' × Counts calls run
