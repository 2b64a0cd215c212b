-- `name_entries::entry::sound` meets its contract: the tests are the parts of soundness.
use native.Mathlib.Omega.{arith}
use Rattle.definitions.proofs.Deciding.{says_no}
use Rattle.name_entries.proofs.Entries.{unused_zero}
use Rattle.name_entries.proofs.entry.sound.Goals as goal

pub returns-then-n-lt-SHORTEST_NAME : goal.returns-then-n-lt-SHORTEST_NAME
returns-then-n-lt-SHORTEST_NAME c = says_no (λ s. let h = s.shortest in omega arith)

pub returns : goal.returns
returns c = unused_zero _ _ _ c.requires c.name_length-n.ensures.is (omega arith) (omega arith) c.all_zero.ensures
