use Rattle.std.proofs.Common.{arith}
use Rattle.store.proofs.Answering.{number_low}
use Rattle.store.proofs.interning.number_of.Goals as goal

pub overflow_add-result : goal.overflow_add-result
overflow_add-result c = let l = number_low c.in-Err.refusal in omega arith
