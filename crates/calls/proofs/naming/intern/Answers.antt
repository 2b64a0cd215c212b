use lib.ListN.{length-take, replicate}
use native.Mathlib.Omega.{arith}
use Rattle.definitions.specs.Names.{longest_name}
use Rattle.calls.proofs.SpelledNames.{interns_spelled, interned_beside}
use Rattle.calls.proofs.naming.intern.Goals as goal

pub slice_bounds-intern-end : goal.slice_bounds-intern-end
slice_bounds-intern-end c = let w = c.spell_name-name.ensures in let few = w.few in let size = w.size in simp length-take (omega arith)

pub returns : goal.returns
returns c = record {
  called = interns_spelled _ _ c.args.operands.now _ c.intern-interned.result.answer (replicate longest_name 0) _ _ c.spell_name-name.ensures.is c.intern-interned.ensures;
  name = interned_beside _ _ _ c.intern-interned.result.answer _ _ c.intern-interned.ensures;
}
