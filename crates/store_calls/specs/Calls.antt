-- The plain machine's call and answer for each case of the code's, and when two plain calls are one.
use Rattle.std.specs.Prelude.{ℕ, ◌≡◌, List}
use Rattle.definitions.specs.Machine as M
use Rattle.definitions.specs.Modes.{mode_of}
use Rattle.store.specs.Memory.{Memory, model, changes_nothing}
use Rattle.store_calls.specs.declared.Call.{Call}
use Rattle.store_calls.specs.declared.Call.TheVariants.{Variable, Constant, Operator, Function, Control, Simplify, Prune, PruneBySetting}
use Rattle.store_calls.specs.declared.answers.Answer.{Answer}
use Rattle.store_calls.specs.declared.answers.Answer.TheVariants.{Stored, Simplified, Pruned, Refused}

abbrev pub call_of : Call → M.Call
call_of (Variable symbol) = M.store (M.variable symbol)
call_of (Constant bits) = M.store (M.constant bits)
call_of (Operator code flags operands) = M.store (M.operator code flags operands.now)
call_of (Function number operands) = M.store (M.function number operands.now)
call_of (Control code operands) = M.store (M.control code operands.now)
call_of (Simplify mode root depth budget) = M.simplify (mode_of mode) root depth budget
call_of (Prune root threshold) = M.prune root threshold
call_of (PruneBySetting root setting) = M.prune_by_setting root setting

-- the same call over other operands, where it is one over operands
abbrev pub call_over : Call → List ℕ → M.Call
call_over (Variable symbol) operands = M.store (M.variable symbol)
call_over (Constant bits) operands = M.store (M.constant bits)
call_over (Operator code flags own) operands = M.store (M.operator code flags operands)
call_over (Function number own) operands = M.store (M.function number operands)
call_over (Control code own) operands = M.store (M.control code operands)
call_over (Simplify mode root depth budget) operands = M.simplify (mode_of mode) root depth budget
call_over (Prune root threshold) operands = M.prune root threshold
call_over (PruneBySetting root setting) operands = M.prune_by_setting root setting

abbrev pub answer_of : Answer → M.Answer
answer_of (Stored id) = M.stored id
answer_of (Simplified walked) = M.simplified walked.id walked.spent walked.steps
answer_of (Pruned pruned) = M.pruned pruned.id pruned.kept pruned.dropped
answer_of (Refused number) = M.refused number

-- Two plain calls that have one outcome on a memory, whose refusals change as little: as `add` of two ids and the operator 0 with flags 3
-- over both.
pub record SameOn (m : Memory) (c c' : M.Call) : Type 0 where
  pub outcome : M.call (model.lent m) (model.view m) c ≡ M.call (model.lent m) (model.view m) c'
  pub changes : (number : ℕ) → changes_nothing c number ≡ changes_nothing c' number

-- on every memory
abbrev pub SameCall : M.Call → M.Call → Type 0
SameCall c c' = (m : Memory) → SameOn m c c'
