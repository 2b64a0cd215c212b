-- A sheet as a list of calls: what its records call, and that they answer and leave what the plain machine answers and leaves when it is
-- fed with these calls.
use Rattle.std.specs.Prelude.{ℕ, zero, suc, ◌≤◌, ◌≡◌, ◌&&◌, cond, List, [], ◌∷◌, ◌++◌, length, leb, eqb}
use Rattle.std.proofs.Math.Option.{Option, none, some}
use Rattle.definitions.specs.Limits.{most_sheet_bytes, most_records}
use Rattle.definitions.specs.Refusals.{too_many_records}
use Rattle.definitions.specs.Intern.{Lent}
use Rattle.definitions.specs.Machine.{Call, Answer, refused, State, call, answers, run}
use Rattle.definitions.specs.Sheet.{body, call_on, operand_id, Ran, cut, record_call, refusal_of}

-- The calls of the records from a byte on, after those that gave `al`: each record's call on its operands' ids, up to the first that is
-- refused.
unfoldable pub record_calls : ℕ → Lent → List Answer → State → List ℕ → List Call
unfolding body call
record_calls zero l al s bs = []
record_calls (suc more) l al s [] = []
record_calls (suc more) l al s (b ∷ bs) =
    elim (record_call (cut (b ∷ bs))) [
      | none ↦ []
      | some cr ↦
          let c = call_on (operand_id (length s.nodes) al) cr.0 in
          let a = call l s c in
          c ∷ elim (refusal_of a.answer) [ none ↦ record_calls more l (al ++ a.answer ∷ []) a.left cr.1 | some r ↦ [] ]
    ]

-- the calls of a sheet, none where it is refused with 1
unfoldable pub sheet_calls : Lent → State → List ℕ → List Call
unfolding record_calls
sheet_calls l s [] = []
sheet_calls l s (v ∷ bs) = cond (eqb v 1 && leb (length (v ∷ bs)) most_sheet_bytes) (record_calls most_records l [] s bs) []

-- How a sheet ends whose records answered `al`, and what its calls answer past them: nothing after its last byte or a refusal of its own
-- (1, 2, 3), and the refusal where a call refused.
pub data SheetEnds (al : List Answer) : Option (ℕ × ℕ) → List Answer → Type 0 where
  whole : SheetEnds al none []
  by_sheet : (r : ℕ) → r ≤ too_many_records → SheetEnds al (some (r, length al)) []
  by_call : (r : ℕ) → SheetEnds al (some (r, length al)) (refused r ∷ [])

-- Records that went on from the state `s`, after those that gave `al`, leave what the calls `cs` leave and answer what these answer. `last`
-- is what the calls answer past the records: the refusal, if a call was refused.
pub record AsCalls (l : Lent) (al : List Answer) (s : State) (cs : List Call) (r : Ran) : Type 0 where
  pub same_state : r.left ≡ run l s cs
  pub last : List Answer
  pub same_answers : al ++ answers l s cs ≡ r.answers ++ last
  pub ends : SheetEnds r.answers r.refusal last
