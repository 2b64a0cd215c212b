-- A reading in numbers, as a store call is.
use Rattle.std.specs.Prelude.{ℕ, zero, suc}
use Rattle.store.specs.declared.NodeAnswer.{NodeAnswer}
use Rattle.store.specs.declared.NodeAnswer.TheVariants.{Id, Refused}

-- the id that stands behind its pointer where 0 is returned
abbrev pub id_unless_refused : ℕ → ℕ → NodeAnswer
id_unless_refused zero id = Id id
id_unless_refused (suc number) id = Refused (suc number)
