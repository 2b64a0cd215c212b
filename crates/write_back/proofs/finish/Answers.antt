use mathlib.Core.Path.{ap}
use Rattle.writer.specs.Answers.{answer_of}
use Rattle.write_back.proofs.Chaining.{prune_written, prune_refused}
use Rattle.write_back.proofs.finish.Goals as goal

pub returns-in-Ok-written : goal.returns-in-Ok-written
returns-in-Ok-written c = prune_written _ _ _ _ _ _ _ c.prune-pruned.ensures _ _ _ _ c.in-Ok.is c.id_of.ensures _ _ (ap answer_of c.in-Ok-written.is) c.write-written.ensures

pub returns-in-Err-written : goal.returns-in-Err-written
returns-in-Err-written c = rw c.number.ensures (prune_written _ _ _ _ _ _ _ c.prune-pruned.ensures _ _ _ _ c.in-Ok.is c.id_of.ensures _ _ (ap answer_of c.in-Err-written.is) c.write-written.ensures)

pub returns-in-Err : goal.returns-in-Err
returns-in-Err c = prune_refused _ _ _ _ _ _ _ c.prune-pruned.ensures _ c.in-Err.is _ c.number-in-Err.ensures
