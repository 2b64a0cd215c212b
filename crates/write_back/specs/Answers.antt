-- What the program's calls say, one after another on the same lent lists: a reading, a simplify, a prune where a setting is given, a write.
use Rattle.std.specs.Prelude.{ℕ, ◌≡◌, Bool, List, ltb, Option, None, Some, Result, Ok, Err}
use Rattle.refusal.specs.declared.Refusal.{Refusal}
use Rattle.refusal.specs.Number.{number_of}
use Rattle.write_back.specs.declared.Written.{Written}
use Rattle.definitions.specs.Machine as M
use Rattle.definitions.specs.Walk.{standard}
use Rattle.definitions.specs.Beside.{beside}
use Rattle.store.specs.declared.NodeAnswer.TheVariants as store
use Rattle.store.specs.Memory.{Memory, model, Leaves}
use Rattle.names.specs.Memory.{name_model}
use Rattle.text.specs.Memory.{ControllerMemory}
use Rattle.text.specs.Reading.{ReadsText}
use Rattle.pruner.specs.declared.Pruned.{Pruned}
use Rattle.pruner.specs.Answers.{meaning}
use Rattle.writer.specs.Answers as Write
use Rattle.writer.specs.Writing.{Writes}
use Rattle.write_back.specs.Ids.{id_of}

-- the depth limit and the budget of the walk
abbrev pub depth_limit : ℕ
depth_limit = 255

abbrev pub ample_budget : ℕ
ample_budget = 100000000

-- without a setting nothing is pruned
pub data FormulaPruned (pruning : Option ℕ) (m : Memory) (id : ℕ) : Result Pruned Refusal → Memory → Type 0 where
  off : pruning ≡ None → FormulaPruned pruning m id (Ok (record { id = id; kept = 1; dropped = 0 })) m
  by : {setting : ℕ} {a : Result Pruned Refusal} {m' : Memory} → pruning ≡ Some setting
      → Leaves (M.prune_by_setting (id_of id) setting) m (meaning a) m' → FormulaPruned pruning m id a m'

-- the length of the text, the walk's steps, whether its budget was used up, whether the formula may be deeper than it went, the two counts
abbrev pub outcome_of : Write.WriteAnswer → ℕ → Bool → Bool → ℕ → ℕ → Result Written ℕ
outcome_of (Write.Length length) steps spent deep kept dropped = Ok (record { length = length; steps = steps; spent = spent; deep = deep; kept = kept; dropped = dropped })
outcome_of (Write.Refused number) steps spent deep kept dropped = Err number

-- the prune and the write: what the prune answered is written, and the lists are those that it left
pub data FinishesFormula (pruning : Option ℕ) (steps : ℕ) (spent deep : Bool) (m : ControllerMemory) (id : ℕ) (buffer : List ℕ)
    : Result Written ℕ → ControllerMemory → List ℕ → Type 0 where
  unpruned : {refusal : Refusal} {s : Memory} → FormulaPruned pruning m.store id (Err refusal) s
      → FinishesFormula pruning steps spent deep m id buffer (Err (number_of refusal)) (beside model name_model s m.names) buffer
  finished : {i kept dropped : ℕ} {s : Memory} {a : Write.WriteAnswer} {buffer' : List ℕ}
      → FormulaPruned pruning m.store id (Ok (record { id = i; kept = kept; dropped = dropped })) s
      → Writes (beside model name_model s m.names) (id_of i) buffer a buffer'
      → FinishesFormula pruning steps spent deep m id buffer (outcome_of a steps spent deep kept dropped)
      (beside model name_model s m.names) buffer'

-- an id over the walk's depth limit may have a formula that goes deeper than the walk; no other has one (`Shallow` of Depth.antt)
abbrev pub may_be_deeper : ℕ → Bool
may_be_deeper id = ltb depth_limit (id_of id)

-- the walk, and then these: the walk changes the store alone
pub data Simplifies (pruning : Option ℕ) (m : ControllerMemory) (id : ℕ) (buffer : List ℕ)
    : Result Written ℕ → ControllerMemory → List ℕ → Type 0 where
  unsimplified : {number : ℕ} {s : Memory}
      → Leaves (M.simplify standard (id_of id) depth_limit ample_budget) m.store (M.refused number) s
      → Simplifies pruning m id buffer (Err number) (beside model name_model s m.names) buffer
  walked : {i steps : ℕ} {spent : Bool} {s : Memory} {m' : ControllerMemory} {o : Result Written ℕ} {buffer' : List ℕ}
      → Leaves (M.simplify standard (id_of id) depth_limit ample_budget) m.store (M.simplified i spent steps) s
      → FinishesFormula pruning steps spent (may_be_deeper id) (beside model name_model s m.names) i buffer o m' buffer'
      → Simplifies pruning m id buffer o m' buffer'

-- the reading, and then these: a refusal leaves the buffer as it was, and the lists as the refused call left them
pub data Answers (typed : List ℕ) (pruning : Option ℕ) (m : ControllerMemory) (buffer : List ℕ)
    : Result Written ℕ → ControllerMemory → List ℕ → Type 0 where
  unread : {number : ℕ} {m' : ControllerMemory} → ReadsText typed m (store.Refused number) m'
      → Answers typed pruning m buffer (Err number) m' buffer
  read : {id : ℕ} {m' m'' : ControllerMemory} {o : Result Written ℕ} {buffer' : List ℕ} → ReadsText typed m (store.Id id) m'
      → Simplifies pruning m' id buffer o m'' buffer' → Answers typed pruning m buffer o m'' buffer'
