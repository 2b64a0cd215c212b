-- A call in numbers: 0 is returned where it is answered, and the answer stands behind pointers; else the refusal's number is returned.
use Rattle.std.specs.Prelude.{ℕ, zero, suc, ◌≤◌, ◌<◌, ◌≡◌, Bool, true, false, List}
pub use Rattle.arena.specs.Layout.{arena_of}
use Rattle.definitions.specs.Machine as M
use Rattle.store.specs.Memory.{Memory, memory}

-- lent words and slots, with the count of nodes and the size of the table that stand behind pointers
abbrev pub lent_memory : List ℕ → List ℕ → ℕ → ℕ → Memory
lent_memory words slots count size = memory words slots (arena_of count size)

-- the answer that stands behind the pointers where 0 is returned
abbrev pub unless_refused : ℕ → M.Answer → M.Answer
unless_refused zero answer = answer
unless_refused (suc number) answer = M.refused (suc number)

-- whether a walk was spent: 1, or 0
abbrev pub is_spent : ℕ → Bool
is_spent zero = false
is_spent (suc n) = true

-- a walk that is answered leaves no other number
abbrev pub SpentOrNot : ℕ → ℕ → Type 0
SpentOrNot r spent = r ≡ 0 → spent ≤ 1

-- a refusal leaves the numbers behind the answer's pointers as they were
abbrev pub OutputsStay : ℕ → List ℕ → List ℕ → Type 0
OutputsStay r before after = 0 < r → after ≡ before

-- ---- what is left behind pointers of a call's answer
abbrev pub number_of : M.Answer → ℕ
number_of (M.stored id) = 0
number_of (M.simplified id spent steps) = 0
number_of (M.pruned id kept dropped) = 0
number_of (M.refused number) = number

abbrev pub is_refused : M.Answer → Bool
is_refused (M.stored id) = false
is_refused (M.simplified id spent steps) = false
is_refused (M.pruned id kept dropped) = false
is_refused (M.refused number) = true

-- the answers of a call that makes a node, of a walk and of a prune
abbrev pub AnswersNode : M.Answer → Type 0
AnswersNode (M.stored id) = Unit {0}
AnswersNode (M.simplified id spent steps) = ⊥
AnswersNode (M.pruned id kept dropped) = ⊥
AnswersNode (M.refused number) = Unit {0}

abbrev pub AnswersWalk : M.Answer → Type 0
AnswersWalk (M.stored id) = ⊥
AnswersWalk (M.simplified id spent steps) = Unit {0}
AnswersWalk (M.pruned id kept dropped) = ⊥
AnswersWalk (M.refused number) = Unit {0}

abbrev pub AnswersPrune : M.Answer → Type 0
AnswersPrune (M.stored id) = ⊥
AnswersPrune (M.simplified id spent steps) = ⊥
AnswersPrune (M.pruned id kept dropped) = Unit {0}
AnswersPrune (M.refused number) = Unit {0}

pub record LeftBehind (answer : M.Answer) (r : ℕ) (left : M.Answer) (before after : List ℕ) : Type 0 where
  pub number : r ≡ number_of answer
  pub answered : is_refused answer ≡ false → left ≡ answer
  pub refused : is_refused answer ≡ true → after ≡ before

-- whether a walk was spent is left as 0 or 1
abbrev pub SpentLeft : M.Answer → ℕ → Type 0
SpentLeft answer spent = is_refused answer ≡ false → spent ≤ 1
