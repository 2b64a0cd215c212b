-- From a call's record to what it says in numbers.
use Prim.Native.Nat.{ℕ, zero, suc}
use mathlib.Core.Path.{◌≡◌, refl, sym, ap, ◌∙◌, subst}
use mathlib.Core.Bool.{false}
use mathlib.Core.List.{List}
use native.Mathlib.Omega.{arith}
use Rattle.arena.specs.declared.DagArena.{DagArena}
use Rattle.definitions.specs.Machine as M
use Rattle.store.specs.Memory.{Memory, memory, Leaves}
use Rattle.store_calls.proofs.Same.{leaves_as, same_request}
use Rattle.outputs.specs.Calls.{arena_of, lent_memory, unless_refused, OutputsStay, SpentOrNot, is_refused, LeftBehind, SpentLeft}
use Rattle.curvalique.proofs.Refusals.{never_0}

-- what is left is the answer, and what is returned its number
same_answer : (c : M.Call) (m m' : Memory) (answer : M.Answer) (r : ℕ) (left : M.Answer) (before after : List ℕ)
    → Leaves c m answer m' → LeftBehind answer r left before after → (unless_refused r left ≡ answer) × OutputsStay r before after
same_answer c m m' (M.stored id) r left before after h l = (ap (λ (n : ℕ). unless_refused n left) l.number ∙ l.answered refl, λ p. let e = l.number in absurd (omega arith))
same_answer c m m' (M.simplified id spent steps) r left before after h l = (ap (λ (n : ℕ). unless_refused n left) l.number ∙ l.answered refl, λ p. let e = l.number in absurd (omega arith))
same_answer c m m' (M.pruned id kept dropped) r left before after h l = (ap (λ (n : ℕ). unless_refused n left) l.number ∙ l.answered refl, λ p. let e = l.number in absurd (omega arith))
same_answer c m m' (M.refused zero) r left before after h l = absurd (never_0 c m m' h.called)
same_answer c m m' (M.refused (suc number)) r left before after h l = (ap (λ (n : ℕ). unless_refused n left) l.number, λ p. l.refused refl)

-- a call in numbers
pub in_numbers : (c : M.Call) (m : Memory) (words slots : List ℕ) (arena : DagArena) (count size : ℕ) (answer : M.Answer) (r : ℕ) (left : M.Answer) (before after : List ℕ)
    → Leaves c m answer (memory words slots arena) → arena_of count size ≡ arena → LeftBehind answer r left before after
    → Leaves c m (unless_refused r left) (lent_memory words slots count size) × OutputsStay r before after
in_numbers c m words slots arena count size answer r left before after h e l =
    let s = same_answer c m (memory words slots arena) answer r left before after h l in
    (subst (λ (a : DagArena). Leaves c m (unless_refused r left) (memory words slots a)) (sym e) (subst (λ (a : M.Answer). Leaves c m a (memory words slots arena)) (sym s.0) h), s.1)

-- 0 is returned of an answer alone
pub not_refused : (c : M.Call) (m m' : Memory) (answer : M.Answer) (r : ℕ) (left : M.Answer) (before after : List ℕ)
    → Leaves c m answer m' → LeftBehind answer r left before after → r ≡ 0 → is_refused answer ≡ false
not_refused c m m' (M.stored id) r left before after h l z = refl
not_refused c m m' (M.simplified id spent steps) r left before after h l z = refl
not_refused c m m' (M.pruned id kept dropped) r left before after h l z = refl
not_refused c m m' (M.refused zero) r left before after h l z = absurd (never_0 c m m' h.called)
not_refused c m m' (M.refused (suc number)) r left before after h l z = let e = l.number in absurd (omega arith)

-- a simplify in numbers
pub simplify_in_numbers : (c : M.Call) (m : Memory) (words slots : List ℕ) (arena : DagArena) (count size : ℕ) (answer : M.Answer) (r : ℕ) (left : M.Answer) (before after : List ℕ) (spent : ℕ)
    → Leaves c m answer (memory words slots arena) → arena_of count size ≡ arena → LeftBehind answer r left before after → SpentLeft answer spent
    → Leaves c m (unless_refused r left) (lent_memory words slots count size) × (OutputsStay r before after × SpentOrNot r spent)
simplify_in_numbers c m words slots arena count size answer r left before after spent h e l s =
    let n = in_numbers c m words slots arena count size answer r left before after h e l in
    (n.0, (n.1, λ z. s (not_refused c m (memory words slots arena) answer r left before after h l z)))

-- a store call by another that wants the same node
pub made_as : {S : Type 0} (m : Memory) (c d : M.Store) (a : M.Answer) (m' : Memory) → M.requested d ≡ M.requested c → Leaves (M.store d) m a m' × S → Leaves (M.store c) m a m' × S
made_as m c d a m' e (k, s) = (leaves_as m (M.store d) (M.store c) (same_request d c e m) a m' k, s)
