use mathlib.Core.Path.{refl}
use Rattle.write_back.proofs.Chaining.{walk_ended, walk_refused}
use Rattle.write_back.proofs.simplify.Goals as goal

pub returns-in-Ok : goal.returns-in-Ok
returns-in-Ok c = walk_ended _ _ _ _ _ c.id_of-root.ensures _ c.simplify-walked.ensures _ _ _ _ c.in-Ok.is refl c.finish.ensures

pub returns-in-Err : goal.returns-in-Err
returns-in-Err c = walk_refused _ _ _ _ _ c.id_of-root.ensures _ c.simplify-walked.ensures _ c.in-Err.is _ c.number.ensures
