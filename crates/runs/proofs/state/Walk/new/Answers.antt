-- The arrays are filled, and the root stands in the first frame.
use mathlib.Core.Path.{refl}
use borrow.Author.Rules.{rules}
use Rattle.runs.proofs.state.Walk.new.Goals as goal

pub returns : goal.returns
returns c = rw (c.new-arrays.ensures, c.first.ensures) (record {
  frames = refl;
  one = refl;
  none = refl;
  whole = record { frames = search rules; values = search rules };
  mode_is = refl;
  limit_is = refl;
  going = refl;
})
