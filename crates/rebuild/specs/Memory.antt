-- Short names for a store in lent memory, as a walk has it.
use Rattle.std.specs.Prelude.{List}
use Rattle.definitions.specs.Node.{Node}
use Rattle.definitions.specs.Intern.{Lent}
use Rattle.store.specs.View as View
use Rattle.store.specs.View.{nodes_in, lent, Kept}
pub use Rattle.store.specs.Memory.{Memory, memory}

abbrev pub SoundMemory : Memory → Type 0
SoundMemory m = View.Sound m.words m.slots m.arena

abbrev pub nodes_of : Memory → List Node
nodes_of m = nodes_in m.words m.arena.count

abbrev pub lent_of : Memory → Lent
lent_of m = lent m.words m.slots

-- the store stays sound, and "Words and slots past the used ones stay"
abbrev pub Keeps : Memory → Memory → Type 0
Keeps m m' = Kept m.words m.slots m.arena m'.words m'.slots m'.arena
