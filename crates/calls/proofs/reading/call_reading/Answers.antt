use lib.ListN.{length-take}
use native.Mathlib.Omega.{arith}
use Rattle.calls.proofs.TypedTexts.{reads_typed}
use Rattle.calls.proofs.reading.call_reading.Goals as goal

pub slice_bounds-read-end : goal.slice_bounds-read-end
slice_bounds-read-end c = let w = c.spell_text-typed.ensures in let few = w.few in let size = w.size in simp length-take (omega arith)

pub returns : goal.returns
returns c = reads_typed c.args.operands.now _ _ _ _ c.spell_text-typed.ensures.is c.read.ensures
