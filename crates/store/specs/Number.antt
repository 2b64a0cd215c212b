-- An answer of interning as one number, which is handed on in a register.
use Rattle.std.specs.Prelude.{ℕ, ◌+◌, ◌-◌, cond, leb}
use Rattle.arena.specs.Layout.{most_nodes}
use Rattle.store.specs.declared.NodeAnswer.{NodeAnswer}
use Rattle.store.specs.declared.NodeAnswer.TheVariants.{Id, Refused}

-- an id, or past every id a refusal's number
abbrev pub number_of : NodeAnswer → ℕ
number_of (Id i) = i
number_of (Refused k) = most_nodes + k

-- the answer that a number stands for
unfoldable pub answer_in : ℕ → NodeAnswer
answer_in number = cond (leb most_nodes number) (Refused (number - most_nodes)) (Id number)
