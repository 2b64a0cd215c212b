-- What doing a sheet's records, one after another, says of the memory before them, their outcome and the memory after them.
use Rattle.std.specs.Prelude.{ℕ, ◌+◌, ◌*◌, ◌-◌, ◌≤◌, ◌<◌, ◌≡◌, Bool, false, cond, List, map, length, get_or, drop, leb, ltb, Option, Some, None, Result, Ok as Done, Err}
use Rattle.std.proofs.Math.Option.{none}
use Rattle.definitions.specs.Limits.{most_records, most_children}
use Rattle.definitions.specs.Machine as M
use Rattle.definitions.specs.Sheet as Sheet
use Rattle.store.specs.Memory.{Memory, memory, model, Leaves, Stays}
use Rattle.store_calls.specs.declared.Call.{Call}
use Rattle.store_calls.specs.declared.answers.Answer.{Answer}
use Rattle.store_calls.specs.Calls as Store
use Rattle.records.specs.declared.Body.{Body}
use Rattle.records.specs.Reading.{call_of, operands_from, OperandsInSheet}
use Rattle.listing_lines.specs.declared.SheetOutcome.{SheetOutcome}
use Rattle.listing_lines.specs.declared.SheetOutcome.TheVariants.{Ok, Empty, Spent, Refused as RefusedAt}
use Rattle.listing_lines.specs.Outcome.{outcome_of}
use Rattle.sheet.specs.declared.performing.RecordRequest.{RecordRequest}
use Rattle.sheet.specs.declared.running.RecordAnswer.{RecordAnswer}
use Rattle.sheet.specs.declared.running.SheetProgress.{SheetProgress}

-- ---- one record

-- a call's answer as it is noted: the id and whether the budget ran out, or the refusal's number
abbrev pub answered : ℕ → Bool → RecordAnswer
answered id spent = record { id = id; spent = spent }

abbrev pub noted_as : M.Answer → Result RecordAnswer ℕ
noted_as (M.stored id) = Done (answered id false)
noted_as (M.simplified id spent steps) = Done (answered id spent)
noted_as (M.pruned id kept dropped) = Done (answered id false)
noted_as (M.refused number) = Err number

-- the id of an operand; one that is no earlier record gets the count
abbrev pub id_of : List ℕ → ℕ → ℕ → ℕ → ℕ
id_of ids done count operand = cond (ltb operand done) (get_or ids operand 0) count

-- the same with ids that no node has brought down to the count
abbrev pub id_below : List ℕ → ℕ → ℕ → ℕ → ℕ
id_below ids done count operand = cond (ltb operand done) (cond (ltb (get_or ids operand 0) count) (get_or ids operand 0) count) count

-- one operand more than a node has children stands for all past it: either way the call is refused with 6
abbrev pub operands_read : ℕ
operands_read = most_children + 1

abbrev pub read_of : ℕ → ℕ
read_of operands = cond (leb operands operands_read) operands operands_read

-- a call, and where so many operands start
abbrev pub request : Call → ℕ → ℕ → RecordRequest
request call first operands = record { call = call; first = first; operands = operands }

-- A call that a body asks for, over operands that stand in the sheet, with these ids for record numbers.
pub record AsksFor (s : List ℕ) (body : Body) (id : ℕ → ℕ) (r : RecordRequest) : Type 0 where
  pub within : r.first + r.operands * 2 ≤ length s
  pub same : Store.call_over r.call (map id (operands_from s r.first r.operands)) ≡ Sheet.call_on id (call_of s body)

-- whatever sheet the body is of
abbrev pub Requests : Body → (ℕ → ℕ) → RecordRequest → Type 0
Requests body id r = (s : List ℕ) → OperandsInSheet (length s) body → AsksFor s body id r

-- a record's body on a sound store: its call on ids
abbrev pub PerformsBody : List ℕ → Body → List ℕ → ℕ → Memory → Answer → Memory → Type 0
PerformsBody s body ids done m a m' = Leaves (Sheet.call_on (id_of ids done m.arena.count) (call_of s body)) m (Store.answer_of a) m'

-- ---- records one after another

-- what a sheet whose records were all answered says
abbrev pub finished_as : Option RecordAnswer → SheetOutcome
finished_as None = Empty
finished_as (Some a) = cond a.spent (Spent a.id) (Ok a.id)

-- So far `answers` were given from memory `m` on, their ids are noted, and what is left of the sheet `s` gives `plain`.
pub record Doing (s : List ℕ) (plain : Sheet.Ran) (m : Memory) (p : SheetProgress) (m' : Memory) (ids : List ℕ) : Type 0 where
  pub answers : List M.Answer
  pub long : length answers ≡ p.done
  pub few : p.done ≤ most_records
  pub wide : length ids ≡ most_records
  pub noted : (k : ℕ) → k < p.done → get_or ids k 0 ≡ Sheet.answer_id (get_or answers k (M.refused 0))
  pub last : outcome_of none answers ≡ finished_as p.last
  pub goes : Sheet.records (most_records - p.done) (model.lent m') answers (model.view m') (drop p.at s) ≡ plain
  pub stays : Stays m m'

-- the whole of a sheet's records
pub record RunsRecords (plain : Sheet.Ran) (m : Memory) (o : SheetOutcome) (m' : Memory) : Type 0 where
  pub outcome : o ≡ outcome_of plain.refusal plain.answers
  pub left : model.view m' ≡ plain.left
  pub stays : Stays m m'

-- one more record, or the end of the sheet by a refusal
abbrev pub Turned : List ℕ → Sheet.Ran → Memory → ℕ → Result Unit ℕ → SheetProgress → List ℕ → List ℕ → List ℕ → Type 0
Turned s plain m done (Done x) p words slots ids = (p.done ≡ done + 1) × Doing s plain m p (memory words slots p.arena) ids
Turned s plain m done (Err number) p words slots ids = (p.done ≡ done) × RunsRecords plain m (RefusedAt number done) (memory words slots p.arena)

-- a turn, whatever was done before it
pub record NextRecord (s : List ℕ) (p : SheetProgress) (words slots ids : List ℕ) (t : Result Unit ℕ) (p' : SheetProgress) (words' slots' ids' : List ℕ) : Type 0 where
  pub turned : (plain : Sheet.Ran) (m : Memory) → Doing s plain m p (memory words slots p.arena) ids → Turned s plain m p.done t p' words' slots' ids'
