-- What is built in a store that holds its lists.
use Rattle.std.specs.Prelude.{ℕ, List, Result}
use Rattle.refusal.specs.declared.Refusal.{Refusal}
use Rattle.definitions.specs.Node.{Node}
use Rattle.definitions.specs.Intern as I
use Rattle.definitions.specs.Intern.{Lent}
use Rattle.store.specs.Memory.{Memory}
use Rattle.store.specs.Held.{built_in}
use Rattle.decisions.specs.Carrying.{BuildsBy}

-- the memory is left as building on its nodes leaves the plain machine
abbrev pub BuildsIn : (Lent → List Node → I.Built) → Memory → Result ℕ Refusal → Memory → Type 0
BuildsIn plain m answer m' = BuildsBy plain m.words m.slots m.arena m'.words m'.slots (built_in answer m')
