-- What the bytes of a sheet are read as, in the words of the plain machine.
use Rattle.std.specs.Prelude.{ℕ, zero, suc, ◌+◌, ◌*◌, ◌^◌, ◌≤◌, ◌<◌, ◌≡◌, Bool, false, ◌&&◌, List, [], ◌∷◌, length, take, drop, leb, eqb, Result, Ok, Err, IfOk, IfErr, is_ok}
use Rattle.std.proofs.Math.Option.{Option, none, some}
use Rattle.definitions.specs.Limits.{most_records, most_sheet_bytes}
use Rattle.refusal.specs.declared.Refusal.{Refusal}
use Rattle.refusal.specs.declared.Refusal.TheVariants.{BadInput, BadRecord}
use Rattle.refusal.specs.Number.{number_of}
use Rattle.definitions.specs.Intern.{Lent}
use Rattle.definitions.specs.Modes.{mode_of}
use Rattle.definitions.specs.Machine.{variable, constant, operator, function, control, Call, store, simplify, prune, State}
use Rattle.definitions.specs.Sheet.{big_endian, cut, with_rest, record_call, Ran, ran, records, sheet}
use Rattle.records.specs.declared.Body.{Body}
use Rattle.records.specs.declared.Body.TheVariants.{Variable, Constant, Operator, Function, Control, Simplify, Prune}
use Rattle.records.specs.declared.Cursor.{Cursor}
use Rattle.records.specs.declared.Record.{Record}

-- so many bytes from a place on
abbrev pub part : List ℕ → ℕ → ℕ → List ℕ
part s at n = take n (drop at s)

-- "All big-endian": the number that so many bytes from a place on are
pub record Number (s : List ℕ) (at width r : ℕ) : Type 0 where
  pub is : r ≡ big_endian (part s at width)
  pub small : r < 256 ^ width

-- "operands are indices (2 bytes) of earlier records"
abbrev pub operand_from : List ℕ → ℕ → ℕ
operand_from s at = big_endian (part s at 2)

-- so many operands from a place on
unfoldable pub operands_from : List ℕ → ℕ → ℕ → List ℕ
operands_from s first zero = []
operands_from s first (suc n) = operand_from s first ∷ operands_from s (first + 2) n

-- the call on record numbers that a body is
abbrev pub call_of : List ℕ → Body → Call
call_of s (Variable n) = store (variable n)
call_of s (Constant b) = store (constant b)
call_of s (Operator o f first count) = store (operator o f (operands_from s first count))
call_of s (Function n first count) = store (function n (operands_from s first count))
call_of s (Control o first count) = store (control o (operands_from s first count))
call_of s (Simplify mode o depth budget) = simplify (mode_of mode) o depth budget
call_of s (Prune o threshold) = prune o threshold

-- the call of a body that was read, none where it was refused
abbrev pub call_read : List ℕ → Result Body Refusal → Option Call
call_read s (Ok b) = some (call_of s b)
call_read s (Err e) = none

-- the operands of a body stand in the sheet
abbrev pub OperandsInSheet : ℕ → Body → Type 0
OperandsInSheet long (Variable n) = Unit {0}
OperandsInSheet long (Constant b) = Unit {0}
OperandsInSheet long (Operator o f first count) = first + count * 2 ≤ long
OperandsInSheet long (Function n first count) = first + count * 2 ≤ long
OperandsInSheet long (Control o first count) = first + count * 2 ≤ long
OperandsInSheet long (Simplify mode o depth budget) = Unit {0}
OperandsInSheet long (Prune o threshold) = Unit {0}

-- a body of the sheet is this call, or is refused as a bad record
pub record Decodes (s : List ℕ) (call : Option Call) (r : Result Body Refusal) : Type 0 where
  pub is : call_read s r ≡ call
  pub within : IfOk r (λ b. OperandsInSheet (length s) b)
  pub reason : IfErr r (λ e. e ≡ BadRecord)

-- the call of a record that was read and the bytes after it, none where it was refused
abbrev pub record_read : List ℕ → Result Record Refusal → Option (Call × List ℕ)
record_read s (Ok r) = with_rest (some (call_of s r.body)) (drop r.next.at s)
record_read s (Err e) = none

-- the record at a place: its call, and the bytes after it; or it is refused as a bad record
pub record ReadsRecord (s : List ℕ) (at : ℕ) (r : Result Record Refusal) : Type 0 where
  pub is : record_read s r ≡ record_call (cut (drop at s))
  pub within : IfOk r (λ x. OperandsInSheet (length s) x.body)
  pub reason : IfErr r (λ e. e ≡ BadRecord)

-- how a sheet goes on from its start
abbrev pub after_opening : Lent → State → List ℕ → Result Cursor Refusal → Ran
after_opening l m s (Ok c) = records most_records l [] m (drop c.at s)
after_opening l m s (Err e) = ran [] (some (number_of e, 0)) m

-- whether bytes are a sheet
abbrev pub is_sheet : List ℕ → Bool
is_sheet [] = false
is_sheet (v ∷ bs) = eqb v 1 && leb (length (v ∷ bs)) most_sheet_bytes

pub record OpensSheet (s : List ℕ) (r : Result Cursor Refusal) : Type 0 where
  pub is : (l : Lent) (m : State) → after_opening l m s r ≡ sheet l m s
  pub tells : is_sheet s ≡ is_ok r
  pub reason : IfErr r (λ e. e ≡ BadInput)
