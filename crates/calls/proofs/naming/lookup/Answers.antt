use lib.ListN.{length-take, replicate}
use native.Mathlib.Omega.{arith}
use Rattle.definitions.specs.Names.{longest_name}
use Rattle.calls.proofs.SpelledNames.{looks_up_spelled, looked_up_beside}
use Rattle.calls.proofs.naming.lookup.Goals as goal

pub slice_bounds-lookup-end : goal.slice_bounds-lookup-end
slice_bounds-lookup-end c = let w = c.spell_name-name.ensures in let few = w.few in let size = w.size in simp length-take (omega arith)

pub returns : goal.returns
returns c = record {
  called = looks_up_spelled _ _ c.args.operands.now _ c.lookup.result (replicate longest_name 0) _ _ c.spell_name-name.ensures.is c.lookup.ensures;
  name = looked_up_beside _ _ _ c.lookup.result _ _ c.lookup.ensures;
}
