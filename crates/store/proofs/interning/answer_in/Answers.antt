-- `store::interning::answer_in` meets its contract: by whether the number is past every id.
use mathlib.Core.Path.{refl}
use borrow.Author.Tests.{le-leb, lt-leb}
use Rattle.arena.specs.Layout.{most_nodes}
use Rattle.store.specs.Number.{answer_in}
use Rattle.store.proofs.interning.answer_in.Goals as goal

pub returns-then-number-ge-REFUSALS : goal.returns-then-number-ge-REFUSALS
unfolding answer_in
returns-then-number-ge-REFUSALS c = rw (le-leb most_nodes _ c.if-number-ge-REFUSALS.true) refl

pub returns-else-number-ge-REFUSALS : goal.returns-else-number-ge-REFUSALS
unfolding answer_in
returns-else-number-ge-REFUSALS c = rw (lt-leb most_nodes _ c.if-number-ge-REFUSALS.false) refl
