-- An answer as it is handed on.
use mathlib.Core.Path.{◌≡◌, sym, subst}
use mathlib.Core.List.{List}
use Prim.Native.Nat.{ℕ}
use Rattle.arena.specs.declared.DagArena.{DagArena}
use Rattle.definitions.specs.Machine as M
use Rattle.store.specs.Memory.{Memory, memory, Leaves}
use Rattle.store_calls.specs.declared.Call.{Call}
use Rattle.store_calls.specs.declared.answers.Performed.{Performed}
use Rattle.store_calls.specs.Calls.{call_of, answer_of}

-- what a layer's call leaves, with its answer handed on as a store call's
pub handed : (c : M.Call) (m : Memory) (words slots : List ℕ) (a : M.Answer) (arena : DagArena) (r : Performed)
    → Leaves c m a (memory words slots arena) → (answer_of r.answer ≡ a) × (r.arena ≡ arena)
    → Leaves c m (answer_of r.answer) (memory words slots r.arena)
handed c m words slots a arena r k (same, kept) =
    subst (λ (y : DagArena). Leaves c m (answer_of r.answer) (memory words slots y)) (sym kept)
    (subst (λ (b : M.Answer). Leaves c m b (memory words slots arena)) (sym same) k)

-- the plain machine's call done, and its answer handed on as the call's
pub performed : (call x : Call) (m : Memory) (words slots : List ℕ) (a : M.Answer) (arena : DagArena) (r : Performed)
    → call ≡ x → Leaves (call_of x) m a (memory words slots arena) → (answer_of r.answer ≡ a) × (r.arena ≡ arena)
    → Leaves (call_of call) m (answer_of r.answer) (memory words slots r.arena)
performed call x m words slots a arena r e k s =
    subst (λ (c : Call). Leaves (call_of c) m (answer_of r.answer) (memory words slots r.arena)) (sym e)
    (handed (call_of x) m words slots a arena r k s)
